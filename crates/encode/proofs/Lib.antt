pub mod Coded
pub mod Complement
