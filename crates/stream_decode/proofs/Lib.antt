pub mod Counts
pub mod Decoding
pub mod NextUnits
pub mod SegmentPictures
pub mod SlicePictures
pub mod Wholes
