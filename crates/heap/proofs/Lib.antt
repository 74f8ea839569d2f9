pub mod Sifting
pub mod Held
