pub mod Split
pub mod WordBytes
pub mod Runs
pub mod Number
