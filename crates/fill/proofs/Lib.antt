pub mod Works
pub mod Onward
pub mod Turns
pub mod Whole
