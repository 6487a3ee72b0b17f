pub mod Desktops
pub mod Going
pub mod Parts
pub mod Patches
pub mod Pixels
pub mod Shown
pub mod InRows
