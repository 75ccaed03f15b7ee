pub mod Pixmap
pub mod Inner
