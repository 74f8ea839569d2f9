pub mod Printed
pub mod Obeyed
