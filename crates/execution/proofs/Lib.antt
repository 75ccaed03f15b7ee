pub mod Shape
pub mod Steady
pub mod Steps
pub mod Performed
