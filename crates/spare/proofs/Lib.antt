pub mod Taking
pub mod Marking
pub mod Finding
pub mod Heading
