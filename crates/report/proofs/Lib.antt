pub mod PutLaws
pub mod PrintLaws
pub mod PageLaws
pub mod ReadBack
pub mod Vectors
