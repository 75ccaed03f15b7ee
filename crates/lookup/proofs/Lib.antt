pub mod Found
pub mod HasDc
pub mod Updates
