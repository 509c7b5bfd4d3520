pub mod Octets
pub mod Locked
pub mod Lookups
pub mod Forks
pub mod Elsewhere
pub mod Owned
pub mod Replies
pub mod Refusing
