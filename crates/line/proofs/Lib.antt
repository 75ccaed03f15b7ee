pub mod Along
pub mod Toward
pub mod Steps
pub mod Line
pub mod Dots
