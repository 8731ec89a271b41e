pub mod Word
pub mod Native
pub mod Age
pub mod Sum
