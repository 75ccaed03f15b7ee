pub mod P6
pub mod Reader
pub mod Joined
pub mod Inner
