pub mod Drawing
pub mod NextLines
