-- Square blocks of levels.
use Rattle.std.specs.Prelude.{ℕ, ◌+◌, ◌*◌, ◌^◌, List, ◌++◌, take, drop, ℤ}

-- the base-2 logarithm of the side, and the levels in rows from the top
pub record Square : Type 0 where
  pub log2 : ℕ
  pub levels : List ℤ

-- how many levels a block has
abbrev pub area : ℕ → ℕ
area log2 = 2 ^ log2 * 2 ^ log2

-- where a level stands in the rows
abbrev pub place : ℕ → ℕ → ℕ → ℕ
place log2 x y = y * 2 ^ log2 + x

-- the levels with those of one row exchanged
abbrev pub with_row : ℕ → ℕ → List ℤ → List ℤ → List ℤ
with_row log2 y row levels = take (place log2 0 y) levels ++ (row ++ drop (place log2 0 (y + 1)) levels)
