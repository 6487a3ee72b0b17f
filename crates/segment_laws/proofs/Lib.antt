pub mod SegmentLaw
pub mod SegmentRows
pub mod SegmentStreams
pub mod SegmentSpelling
