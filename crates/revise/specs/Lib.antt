pub mod Numbers
pub mod Revising
pub mod Steps
