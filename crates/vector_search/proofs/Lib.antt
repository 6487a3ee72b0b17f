pub mod Tried
pub mod Rows
pub mod Moves
pub mod Copy
pub mod Sides
