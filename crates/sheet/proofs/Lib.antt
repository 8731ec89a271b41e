pub mod Bytes
pub mod Opens
