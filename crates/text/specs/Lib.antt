pub mod Ink
pub mod Inner
