pub mod Yields
pub mod ReadTrees
pub mod ReadRows
pub mod Drawn
pub mod Apart
pub mod LeftOut
