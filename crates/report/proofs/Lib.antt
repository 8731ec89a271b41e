pub mod Values
pub mod Reports
pub mod Batches
