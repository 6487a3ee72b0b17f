pub mod Rows
pub mod Sides
pub mod WordExamples
