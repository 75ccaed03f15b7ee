pub mod Rows
pub mod Box
