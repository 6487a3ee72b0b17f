mod Flat
mod Kept
mod MoveSteps
pub mod MoveWalks
mod PartLaws
mod Shorts
