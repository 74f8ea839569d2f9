pub mod Text
pub mod Commands
pub mod Written
pub mod Reading
