pub mod Blits
