pub mod Order
pub mod Segments
pub mod Smoothed
pub mod Filling
pub mod Sides
