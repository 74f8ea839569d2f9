pub mod Tour
pub mod Gathering
pub mod Promises
