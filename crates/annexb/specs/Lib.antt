pub mod Escaping
pub mod Laws
pub mod Marks
pub mod Refusals
pub mod Walks
