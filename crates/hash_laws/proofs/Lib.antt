pub mod HashLaw
