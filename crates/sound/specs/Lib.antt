pub mod Sound
pub mod Inner
