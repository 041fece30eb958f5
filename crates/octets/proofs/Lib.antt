pub mod SplitLaws
pub mod SearchLaws
pub mod WordLaws
pub mod RunLaws
pub mod NumberLaws
pub mod Vectors
