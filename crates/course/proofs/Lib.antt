pub mod ThroughLaws
pub mod Runs
pub mod Pieces
pub mod Written
pub mod DotsLaws
pub mod WrittenBack
