pub mod Costs
pub mod Planned
pub mod Still
pub mod Lawful
