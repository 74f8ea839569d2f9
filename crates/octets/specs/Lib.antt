pub mod Lists
pub mod Sets
pub mod Bytes
pub mod Bitmap
