pub mod Kept
pub mod Cuts
