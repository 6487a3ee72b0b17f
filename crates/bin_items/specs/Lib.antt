pub mod Growth
pub mod Square
