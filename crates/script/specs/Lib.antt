pub mod Inner
pub mod Script
