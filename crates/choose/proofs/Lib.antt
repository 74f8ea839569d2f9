pub mod Chosen
pub mod Found
pub mod Shares
