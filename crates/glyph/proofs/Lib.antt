pub mod Glyph
pub mod Reach
pub mod Row
pub mod Drawn
