pub mod Freed
pub mod Deletes
