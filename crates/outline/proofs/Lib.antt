pub mod Rim
pub mod Sides
pub mod Box
