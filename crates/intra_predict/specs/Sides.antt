-- The reference samples along one side, and the line that a slanted mode reads.
use Rattle.std.specs.Prelude.{◌≡◌, ◌≤◌, ℕ, ◌+◌, ◌*◌, ◌-◌, ◌/◌, Bool, true, false, ◌&&◌, nat_le, nat_lt, List, slice_index, ℤ, pos}
use Rattle.h265_model.specs.Predict.{across, down, minus}

-- from the corner on: along the row above, or down the column on the left
abbrev pub side_of : Bool → List ℕ → ℕ → ℕ → ℕ
side_of true refs n = across refs n
side_of false refs n = down refs n

-- a line with the main side from place 32 on, and before it what is taken from the other side (8.4.4.2.6, ref)
pub record IsLine (line : List ℕ) (main other : ℕ → ℕ) (inverse n reach : ℕ) : Type 0 where
  pub ahead : (i : ℕ) → i ≤ 2 * n + 1 → slice_index line (32 + i) ≡ main i
  pub behind : (k : ℕ) → 1 ≤ k → k ≤ reach → slice_index line (32 - k) ≡ other ((k * inverse + 128) / 256)

-- the modes whose angle is below 0
abbrev pub leads_back : ℕ → Bool
leads_back mode = nat_le 11 mode && nat_lt mode 26

-- a number with a sign
abbrev pub signed : Bool → ℕ → ℤ
signed true n = minus n
signed false n = pos n
