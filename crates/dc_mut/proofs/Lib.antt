pub mod Setting
pub mod Fields
pub mod Valued
pub mod Answers
