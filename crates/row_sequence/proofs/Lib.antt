pub mod Definitions
pub mod Sequences
