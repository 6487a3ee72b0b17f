pub mod Planes
pub mod Rows
pub mod Tiles
pub mod Blocks
