pub mod Summing
pub mod Filling
