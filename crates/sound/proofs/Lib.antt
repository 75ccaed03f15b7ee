pub mod Bytes
pub mod Handles
pub mod Sound
pub mod Objects
pub mod Slots
pub mod Positions
