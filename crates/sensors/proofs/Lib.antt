pub mod Literals
pub mod Trust
pub mod Ranks
pub mod Bounds
pub mod Within
pub mod Sheets
