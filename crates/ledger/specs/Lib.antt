pub mod Ledger
pub mod Checks
