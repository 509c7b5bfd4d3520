pub mod Copying
pub mod Filling
pub mod Growing
