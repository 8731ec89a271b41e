pub mod Chain
pub mod Walk
pub mod Pairing
pub mod Magazines
pub mod Marks
