pub mod Below
pub mod Rows
pub mod Shown
pub mod Painted
pub mod Copies
pub mod Tiles
pub mod Blocks
pub mod Squares
