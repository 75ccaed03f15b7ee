pub mod Raster
