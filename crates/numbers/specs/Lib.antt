pub mod Layout
pub mod Block
pub mod View
