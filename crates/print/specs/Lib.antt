pub mod Print
pub mod DecimalWords
pub mod Advance
pub mod Runs
pub mod Course
pub mod Opened
pub mod Sheets
