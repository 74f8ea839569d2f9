pub mod Changes
pub mod Messages
pub mod Effects
pub mod Codes
pub mod Promises
