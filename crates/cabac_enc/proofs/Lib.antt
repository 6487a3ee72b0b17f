pub mod Digits
pub mod Lists
pub mod Steps
pub mod Ending
pub mod Grown
