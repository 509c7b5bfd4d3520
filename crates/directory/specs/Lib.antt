pub mod Cursor
pub mod Search
pub mod Folding
pub mod Entries
