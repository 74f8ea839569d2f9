pub mod PutBytes
pub mod Accepting
pub mod Pieces
pub mod Tiles
