pub mod Writes
pub mod SizeLaws
pub mod SetLaws
