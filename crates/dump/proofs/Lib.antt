pub mod SignalLaws
pub mod DumpLaws
pub mod ScanLaws
pub mod AdvanceLaws
pub mod Pieces
pub mod Outputs
pub mod ReadBack
pub mod Sheet
