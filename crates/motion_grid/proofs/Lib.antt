mod Filling
mod Placing
mod Kept
