pub mod Checked
pub mod Stopped
pub mod Wraps
pub mod Opens
pub mod Happened
