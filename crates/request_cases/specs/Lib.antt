pub mod Clumps
pub mod QuickFinds
