pub mod Modes
pub mod Sides
