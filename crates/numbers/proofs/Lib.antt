pub mod Block
pub mod Record
pub mod Seen
pub mod Slots
pub mod View
pub mod Kept
pub mod Updates
