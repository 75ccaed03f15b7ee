pub mod Objects
pub mod Pinned
pub mod Unique
