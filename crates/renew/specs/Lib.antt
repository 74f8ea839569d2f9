pub mod Amended
pub mod Layable
pub mod Renewed
