pub mod Laws
pub mod Listed
pub mod OneHistory
pub mod Settings
pub mod Standing
pub mod Turns
