pub mod Heaps
pub mod Held
