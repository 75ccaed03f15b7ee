pub mod Bits
pub mod Inner
