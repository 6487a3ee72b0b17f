pub mod HandsOn
pub mod Laws
pub mod Rows
pub mod Sources
