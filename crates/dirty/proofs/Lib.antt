pub mod Marks
pub mod Still
pub mod Numbers
