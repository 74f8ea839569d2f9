pub mod Press
pub mod Writing
