pub mod Range
pub mod Flags
pub mod Tables
pub mod Quiet
pub mod Resting
pub mod Options
pub mod Sheets
