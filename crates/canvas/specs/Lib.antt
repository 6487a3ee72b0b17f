pub mod Drawing
pub mod Marks
