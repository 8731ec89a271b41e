pub mod MetRecords
pub mod Chains
pub mod Walking
pub mod Counts
pub mod Owns
pub mod Markings
