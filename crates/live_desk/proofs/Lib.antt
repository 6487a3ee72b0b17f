pub mod Authors
pub mod Calls
pub mod Fresh
pub mod Turning
pub mod Trial
