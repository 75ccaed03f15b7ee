pub mod Blit
