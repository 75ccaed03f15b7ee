pub mod Region
pub mod Refusal
