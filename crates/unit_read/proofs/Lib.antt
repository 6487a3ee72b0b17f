pub mod ModeReads
pub mod ComponentReads
pub mod IntraReads
pub mod VectorReads
pub mod ContentReads
pub mod UnitReads
