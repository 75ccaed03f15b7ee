pub mod Table
pub mod Loaded
