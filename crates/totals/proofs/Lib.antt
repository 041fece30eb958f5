pub mod Turns
pub mod Laws
pub mod Running
pub mod Theorem
pub mod Lists
pub mod AtRest
pub mod Vectors
