pub mod Serving
pub mod Happened
