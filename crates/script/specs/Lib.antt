pub mod Script
pub mod Run
