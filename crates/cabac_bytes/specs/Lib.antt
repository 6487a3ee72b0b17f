pub mod Pending
pub mod State
