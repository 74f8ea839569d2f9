pub mod Catalogue
pub mod Rows
pub mod Reading
