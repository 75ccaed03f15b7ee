pub mod Numbers
pub mod Drawn
pub mod Arms
pub mod PlacesApart
