pub mod Lookup
pub mod Leaves
pub mod Told
