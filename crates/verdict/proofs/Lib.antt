pub mod Steps
pub mod Stepping
pub mod Placed
pub mod Turns
pub mod Ends
