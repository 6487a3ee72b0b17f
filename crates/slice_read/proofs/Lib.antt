pub mod CutReads
pub mod RowBytes
pub mod SliceReads
