pub mod Cases
pub mod Sides
