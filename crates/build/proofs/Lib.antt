pub mod Bands
pub mod Shapes
pub mod Head
pub mod Own
pub mod Segments
pub mod Children
pub mod Grown
pub mod Laid
