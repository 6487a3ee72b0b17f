pub mod Beside
pub mod Ends
pub mod Jobs
pub mod Players
pub mod Sessions
