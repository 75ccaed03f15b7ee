pub mod Held
pub mod Param
pub mod Operation
pub mod Locals
pub mod Walks
