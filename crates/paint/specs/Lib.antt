pub mod Memories
pub mod Paint
pub mod Taint
