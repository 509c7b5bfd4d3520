pub mod Decoded
pub mod Stored
pub mod Marks
pub mod Places
pub mod Free
