pub mod Lengths
pub mod Tables
pub mod Restored
pub mod Flat
