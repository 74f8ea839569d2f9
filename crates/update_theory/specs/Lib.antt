pub mod Held
pub mod Change
pub mod Spare
pub mod Open
pub mod Going
pub mod Rounds
