pub mod Memory
pub mod Bytes
pub mod Blocks
