pub mod Filled
pub mod Splits
pub mod UnitFlags
pub mod Units
