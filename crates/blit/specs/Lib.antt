pub mod Blit
pub mod Inner
