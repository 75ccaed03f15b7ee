pub mod Search
pub mod Pigeon
pub mod Added
pub mod Examples
pub mod Absent
pub mod Grown
