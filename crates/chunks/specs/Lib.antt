pub mod Header
pub mod Chunk
pub mod Judge
