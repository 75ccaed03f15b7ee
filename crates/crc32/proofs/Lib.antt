pub mod CheckValue
pub mod Steps
