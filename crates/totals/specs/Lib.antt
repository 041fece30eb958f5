pub mod Totals
pub mod Running
pub mod Claim
pub mod Opened
