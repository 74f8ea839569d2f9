pub mod Lines
pub mod Telling
