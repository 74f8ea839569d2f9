pub mod Merging
pub mod Adding
