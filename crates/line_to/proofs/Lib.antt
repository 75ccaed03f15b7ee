pub mod Near
pub mod Moves
