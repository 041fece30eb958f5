pub mod Tables
pub mod Modes
pub mod Masks
