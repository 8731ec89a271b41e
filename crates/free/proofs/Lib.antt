pub mod Frees
