pub mod Line
pub mod Pixel
pub mod Inner
