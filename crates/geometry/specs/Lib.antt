pub mod Sheet
pub mod Limits
