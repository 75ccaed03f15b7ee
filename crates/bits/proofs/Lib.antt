pub mod Fields
pub mod Bytes
pub mod Runs
pub mod Lists
