pub mod Ready
pub mod Inner
