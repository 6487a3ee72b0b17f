pub mod Substreams
pub mod Segments
