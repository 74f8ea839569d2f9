pub mod Saying
pub mod Delivering
