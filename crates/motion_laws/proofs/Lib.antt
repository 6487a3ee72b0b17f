pub mod MovedChoice
pub mod MovedSlices
pub mod MovedStreams
