pub mod Answers
pub mod Laws
pub mod Readings
pub mod Rows
pub mod Sets
pub mod Steps
