pub mod Bits
pub mod Uses
pub mod Codes
