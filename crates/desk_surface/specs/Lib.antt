pub mod Damage
pub mod Shown
