pub mod Sweep
pub mod Pressed
pub mod Report
pub mod Laws
