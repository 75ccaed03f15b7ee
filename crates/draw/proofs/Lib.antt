pub mod Targeted
pub mod Drawings
