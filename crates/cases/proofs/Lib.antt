pub mod More
pub mod WholeFile
