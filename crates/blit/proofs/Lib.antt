pub mod Pixels
pub mod Rows
pub mod From
