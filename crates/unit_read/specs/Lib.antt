pub mod Intra
pub mod Units
pub mod Vectors
