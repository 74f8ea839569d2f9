pub mod Written
pub mod Inside
pub mod Leaving
pub mod Passing
pub mod Replaced
pub mod Laying
pub mod Gathering
pub mod Renewing
