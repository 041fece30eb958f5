pub mod Text
pub mod Reader
pub mod Expected
pub mod Opened
pub mod Wires
