pub mod Desktop
pub mod Lines
pub mod Parts
pub mod Pixels
