pub mod Room
pub mod Changing
pub mod Growing
