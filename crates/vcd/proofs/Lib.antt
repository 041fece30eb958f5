pub mod TextLaws
pub mod Words
pub mod ReadBack
