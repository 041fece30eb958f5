pub mod Put
pub mod Puts
pub mod Print
pub mod Store
pub mod Opened
