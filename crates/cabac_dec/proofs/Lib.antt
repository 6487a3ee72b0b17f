pub mod Parts
pub mod Words
pub mod Windows
pub mod Stops
pub mod Engines
pub mod Steps
pub mod Bins
pub mod Fronts
