pub mod Clip
