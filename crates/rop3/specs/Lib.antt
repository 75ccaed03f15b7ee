pub mod Rop3
pub mod Inner
