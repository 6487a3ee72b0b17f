pub mod Mixes
