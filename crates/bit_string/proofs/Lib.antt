pub mod Digits
pub mod Windows
pub mod Codes
pub mod TableLaws
pub mod ReadLaws
