pub mod Record
pub mod Stock
pub mod Lookup
pub mod Updates
