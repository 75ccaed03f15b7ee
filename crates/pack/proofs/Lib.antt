pub mod Puts
pub mod Lengths
pub mod Values
pub mod Table
pub mod Chunks
