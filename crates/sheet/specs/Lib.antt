pub mod Lines
pub mod WordField
pub mod Grammar
pub mod DecimalWords
pub mod Places
pub mod Opened
