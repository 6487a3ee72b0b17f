pub mod FlaggedReads
pub mod RowReads
pub mod Splits
pub mod TreeReads
