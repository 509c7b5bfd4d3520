pub mod Blocks
pub mod Rooms
