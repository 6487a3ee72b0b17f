pub mod State
