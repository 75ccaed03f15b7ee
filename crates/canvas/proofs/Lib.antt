pub mod Lent
pub mod Drawn
