pub mod MarkedImages
pub mod Tagged
pub mod Rows
pub mod Standings
