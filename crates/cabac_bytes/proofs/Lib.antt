pub mod Numbers
pub mod Shown
pub mod Steps
pub mod Closing
pub mod Grown
pub mod Ending
