pub mod Fields
pub mod Opening
pub mod Areas
pub mod Lent
