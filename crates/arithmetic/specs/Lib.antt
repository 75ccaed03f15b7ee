pub mod Interval
pub mod Integer
pub mod Test
pub mod Sum
pub mod Inner
