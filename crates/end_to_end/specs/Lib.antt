pub mod Lists
pub mod Screens
pub mod Restart
