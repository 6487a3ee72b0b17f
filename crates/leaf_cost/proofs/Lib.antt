pub mod Levels
pub mod Picks
pub mod Sums
