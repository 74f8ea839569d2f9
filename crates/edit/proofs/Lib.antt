pub mod Buffered
pub mod Parts
pub mod Picked
pub mod Lowered
pub mod Gathered
