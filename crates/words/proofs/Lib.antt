pub mod Written
pub mod Painted
pub mod Parts
