pub mod Calls
pub mod Answers
pub mod Queries
pub mod Updates
pub mod NoneGiven
pub mod TopSizes
