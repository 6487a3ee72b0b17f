pub mod EntryPoints
pub mod EscapeLengths
pub mod Pieces
pub mod SegmentUnits
