pub mod Spots
pub mod Kids
pub mod Chains
mod Fews
pub mod Ladders
mod Bests
mod Waits
