pub mod Rows
pub mod Lining
