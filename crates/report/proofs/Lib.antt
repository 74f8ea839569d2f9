pub mod Reports
pub mod Reporting
pub mod Both
pub mod Joined
pub mod Snoc
