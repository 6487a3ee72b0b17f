-- The flags of coded sub-blocks by their places.
use Rattle.std.specs.Prelude.{◌≡◌, ◌≤◌, ◌<◌, ℕ, ◌+◌, ◌*◌, ◌-◌, Bool, false, List, get_or}
use Rattle.h265_model.specs.Residual as residual
use Rattle.h265_model.specs.Residual.{number_of, sub_scan}

-- where the flag of a sub-block stands, in rows of 9
abbrev pub mark_place : ℕ → ℕ → ℕ
mark_place x y = 9 * y + x

-- the flags of the sub-blocks from this number on, the first one's first
pub record AreMarks (s : residual.Shape) (number : ℕ) (flags coded : List Bool) : Type 0 where
  pub each : (x y : ℕ) → x < 9 → y < 9 → number ≤ number_of x y (sub_scan s)
      → get_or coded (mark_place x y) false ≡ get_or flags (number_of x y (sub_scan s) - number) false
