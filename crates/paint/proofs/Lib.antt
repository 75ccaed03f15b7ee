pub mod After
pub mod Alike
pub mod Draws
pub mod Blanks
pub mod Closed
