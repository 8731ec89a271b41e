pub mod Headers
pub mod Chunks
