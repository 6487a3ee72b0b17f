-- What a refusal of a byte stream says.
use Rattle.std.specs.Prelude.{ℕ, ◌≡◌, Result, Err}
use Rattle.annexb.specs.declared.error.UnitsError.{UnitsError}
use Rattle.annexb.specs.declared.error.UnitsError.TheVariants.{BadUnit, NoMemory}

-- the place is the one that the syntax refuses
abbrev pub IsRefusal : {A : Type 0} → Result A ℕ → UnitsError → Type 0
IsRefusal r (BadUnit at) = r ≡ Err at
IsRefusal r NoMemory = Unit {0}
