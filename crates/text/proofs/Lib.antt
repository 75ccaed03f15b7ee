pub mod Drawn
pub mod Reach
pub mod Text
pub mod Units
