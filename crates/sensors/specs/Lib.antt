pub mod Sensors
pub mod Opened
pub mod Sheets
