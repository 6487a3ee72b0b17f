-- The bytes of a row of coding tree units.
use Rattle.std.specs.Prelude.{ℕ, ◌-◌, ◌^◌, ◌<◌, List, length, slice_index}

-- fewer than 2 ^ 31 bytes, of which there is a last, which isn't 0
abbrev pub IsSubstream : List ℕ → Type 0
IsSubstream bytes = (0 < slice_index bytes (length bytes - 1)) × (length bytes < 2 ^ 31)
