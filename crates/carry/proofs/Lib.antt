pub mod Building
pub mod Carried
pub mod One
