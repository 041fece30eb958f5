pub mod Word
pub mod Opened
