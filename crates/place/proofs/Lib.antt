pub mod Places
pub mod Targets
pub mod Apart
pub mod Same
pub mod Numbers
