pub mod Counting
pub mod Padding
pub mod Powers
pub mod Signed
