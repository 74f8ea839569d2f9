pub mod Merged
pub mod Placing
pub mod Lined
