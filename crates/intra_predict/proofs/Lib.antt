pub mod Squares
pub mod Upright
pub mod Leaning
pub mod Turned
