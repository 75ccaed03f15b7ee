pub mod Test
pub mod Interval
pub mod Integer
pub mod Machine
pub mod Sum
pub mod Arrays
