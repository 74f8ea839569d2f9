pub mod Walks
pub mod Merging
