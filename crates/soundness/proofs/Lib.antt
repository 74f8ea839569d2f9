pub mod Ranges
pub mod Steps
pub mod Whole
pub mod Sums
