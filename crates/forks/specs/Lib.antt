pub mod Content
pub mod Growth
