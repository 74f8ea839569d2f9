pub mod Steps
pub mod Cutting
pub mod Moving
pub mod Writing
pub mod Going
