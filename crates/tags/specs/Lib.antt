pub mod Verdict
pub mod Tag
pub mod SizeCode
pub mod Refusal
pub mod Ending
pub mod Filling
pub mod Format
