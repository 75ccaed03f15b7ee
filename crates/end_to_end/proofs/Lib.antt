pub mod Replies
pub mod Entries
pub mod Lists
pub mod Snapshots
pub mod Fresh
pub mod Screens
pub mod Restart
