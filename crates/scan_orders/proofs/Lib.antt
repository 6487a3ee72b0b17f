pub mod Within
pub mod ScanPlaces
pub mod Backwards
pub mod Bounds
pub mod MarkLaws
