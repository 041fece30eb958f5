pub mod Dump
pub mod Advance
pub mod Signals
pub mod Claim
pub mod Opened
pub mod Laws
