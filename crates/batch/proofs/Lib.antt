pub mod Sizes
pub mod Parts
pub mod Taking
pub mod Picks
pub mod Middle
pub mod Opened
