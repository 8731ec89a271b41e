pub mod Transactions
pub mod Latests
