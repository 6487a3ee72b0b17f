pub mod Answers
pub mod Desks
pub mod Held
pub mod Opening
pub mod Passes
pub mod Turned
