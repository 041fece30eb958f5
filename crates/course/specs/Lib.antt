pub mod Through
pub mod Walk
pub mod Dots
pub mod Written
