pub mod Judge
pub mod Marked
