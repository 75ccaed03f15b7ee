pub mod Scan
pub mod Lookup
pub mod Stock
