pub mod Another
pub mod Leaving
pub mod Renames
