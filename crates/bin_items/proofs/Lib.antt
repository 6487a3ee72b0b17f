pub mod Growing
pub mod Bits
pub mod Places
