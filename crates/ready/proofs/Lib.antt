pub mod Ready
pub mod Handles
pub mod Record
