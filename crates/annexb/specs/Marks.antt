-- Bytes that stand after two zeros.
use Rattle.std.specs.Prelude.{ℕ, suc, ◌-◌, ◌<◌, ◌≤◌, List, length, slice_index, ◌≡◌}

-- no byte below place n that follows two zeros is from least to most
pub record ArePlain (least most : ℕ) (list : List ℕ) (n : ℕ) : Type 0 where
  pub each :
      (k : ℕ) → suc (suc k) < n → suc (suc k) < length list → slice_index list k ≡ 0 → slice_index list (suc k) ≡ 0 →
      least ≤ slice_index list (suc (suc k)) → most < slice_index list (suc (suc k))

-- the byte at place n follows two zeros, and is from least to most
pub record IsMark (least most : ℕ) (list : List ℕ) (n : ℕ) : Type 0 where
  pub after : 2 ≤ n
  pub first : slice_index list (n - 2) ≡ 0
  pub second : slice_index list (n - 1) ≡ 0
  pub low : least ≤ slice_index list n
  pub high : slice_index list n ≤ most
