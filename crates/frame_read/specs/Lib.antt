pub mod Sources
pub mod Numbers
pub mod Answers
pub mod Heads
pub mod Pixels
pub mod Listed
pub mod Laws
