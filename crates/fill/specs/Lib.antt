pub mod Fill
pub mod Inner
