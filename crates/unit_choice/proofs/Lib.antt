pub mod Plans
pub mod Stills
pub mod Winners
