pub mod Places
pub mod Records
pub mod Placed
