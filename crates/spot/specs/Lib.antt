pub mod Keys
pub mod Spots
pub mod Range
pub mod Query
pub mod Sorted
