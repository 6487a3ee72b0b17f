pub mod Coded
pub mod Laws
pub mod Planning
