pub mod Limits
pub mod Tallied
pub mod Same
pub mod Table
pub mod Numbers
