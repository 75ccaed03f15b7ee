pub mod Opened
pub mod Fresh
