pub mod Accepting
pub mod Replays
pub mod Standing
pub mod Inside
pub mod Laws
