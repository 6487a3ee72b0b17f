pub mod HeadLaws
pub mod OffsetLaws
pub mod SegmentLaws
