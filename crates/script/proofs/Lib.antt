pub mod Fronts
pub mod Ranged
pub mod Cases
pub mod Turns
pub mod Logs
pub mod Whole
pub mod Worked
