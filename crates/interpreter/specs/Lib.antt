pub mod State
pub mod Histories
pub mod Lines
pub mod Opened
