pub mod Events
pub mod Plan
pub mod Plans
