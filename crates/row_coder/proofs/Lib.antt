pub mod Differences
pub mod Kept
pub mod Linked
pub mod Planned
pub mod RowSteps
pub mod Sourced
pub mod Starts
pub mod Walks
