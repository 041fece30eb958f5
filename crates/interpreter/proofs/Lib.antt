pub mod ActLaws
pub mod Kept
pub mod LineLaws
pub mod ScanLaws
pub mod Followed
pub mod Records
