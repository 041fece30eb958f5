pub mod Log
pub mod History
pub mod Book
pub mod Claim
pub mod Run
