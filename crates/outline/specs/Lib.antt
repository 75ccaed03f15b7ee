pub mod Outline
pub mod Inner
