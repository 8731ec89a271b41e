pub mod Takings
