pub mod Hull
pub mod Smallest
pub mod Inner
