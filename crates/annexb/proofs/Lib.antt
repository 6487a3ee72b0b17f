pub mod Escapes
pub mod Payloads
pub mod ReadBack
pub mod StartCodes
pub mod StartCounts
pub mod Streams
pub mod Walks
