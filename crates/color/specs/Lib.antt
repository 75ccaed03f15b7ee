pub mod Color
