pub mod Reports
pub mod Joined
