pub mod Added
pub mod Creates
