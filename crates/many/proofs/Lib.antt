pub mod Unions
pub mod Slots
pub mod Counting
pub mod Giving
pub mod Answering
