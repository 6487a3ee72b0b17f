-- Lists in parts.
use Rattle.std.specs.Prelude.{ℕ, ◌+◌, ◌-◌, ◌^◌, ◌≤◌, Bool, List, ◌++◌, length, Option, None, Some, ◌≡◌}
use Rattle.h265_model.specs.Bits.{◌>>=◌}

-- one list begins another
abbrev pub Begins : List ℕ → List ℕ → Type 0
Begins front whole = (back : List ℕ) × (whole ≡ front ++ back)

-- where a reader stands: the bits that are left, and how many were read
pub record Cursor : Type 0 where
  pub left : List Bool
  pub place : ℕ

-- a reader that read up to these bits, or read nothing
abbrev pub moved_to : Option (List Bool) → Cursor → Cursor
moved_to None from = from
moved_to (Some left) from = record { left = left; place = from.place + (length from.left - length left) }

-- a reader that read some of what was left
pub record Moves (old new : Cursor) : Type 0 where
  pub whole : new.place + length new.left ≡ old.place + length old.left
  pub fewer : length new.left ≤ length old.left

-- what an Exp-Golomb code of z zeros is read as, by its low digits and what follows them (9.2)
abbrev pub code_of : ℕ → Option (ℕ × List Bool) → Option (ℕ × List Bool)
code_of z low = low >>= λ low. Some (2 ^ z - 1 + low.0, low.1)
