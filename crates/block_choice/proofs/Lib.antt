pub mod Cheapest
pub mod Squares
pub mod OneLeaf
pub mod Planned
