pub mod ExtraStreams
pub mod Beginnings
