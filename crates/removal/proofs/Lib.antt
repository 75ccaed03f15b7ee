pub mod Shifts
pub mod Sound
pub mod Without
pub mod Gaps
