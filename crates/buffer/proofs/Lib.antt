pub mod Lists
pub mod Counts
pub mod Keyed
pub mod Finds
pub mod Best
pub mod Merged
pub mod Laws
mod Search
