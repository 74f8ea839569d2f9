pub mod Shape
pub mod Bands
pub mod Built
pub mod Kept
pub mod Steps
pub mod Rebuilt
pub mod Choose
