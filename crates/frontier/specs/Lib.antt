pub mod Frontier
pub mod Picks
