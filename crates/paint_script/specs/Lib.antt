pub mod Answers
pub mod Full
pub mod Laws
pub mod Paint
pub mod Refusals
pub mod Scripts
pub mod Spellable
