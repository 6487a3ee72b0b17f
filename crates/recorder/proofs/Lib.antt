pub mod Seen
pub mod Streams
pub mod Orders
