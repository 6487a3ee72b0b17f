-- The numbers of places in a scan that goes backwards.
use Rattle.std.proofs.Common.{◌≡◌, refl, ℕ, zero, suc, ◌+◌, ◌-◌, ◌*◌, ◌/◌, ◌%◌, ◌^◌, ◌<◌, ◌≤◌, Bool, true, reverse, arith}
use Rattle.std.specs.Prelude.{◌==◌}
use Rattle.std.proofs.lemmas.Bool.{agree_below, agree_below_at, eqb-true}
use Rattle.h265_model.specs.Residual.{scan, number_of}

-- the numbers of a place, forwards and backwards, are as many as there are but one
turns : ℕ → ℕ → ℕ → Bool
turns kind log2 i =
    number_of (i % 2 ^ log2) (i / 2 ^ log2) (reverse (scan kind log2)) + number_of (i % 2 ^ log2) (i / 2 ^ log2) (scan kind log2) + 1 == 4 ^ log2

all_turn : (kind log2 : ℕ) → 1 ≤ log2 → log2 ≤ 3 → agree_below (turns kind log2) (λ i. true) (4 ^ log2) ≡ true
unfolding turns scan
all_turn kind zero h k = absurd (omega arith)
all_turn zero (suc zero) h k = refl
all_turn zero (suc (suc zero)) h k = refl
all_turn zero (suc (suc (suc zero))) h k = refl
all_turn (suc zero) (suc zero) h k = refl
all_turn (suc zero) (suc (suc zero)) h k = refl
all_turn (suc zero) (suc (suc (suc zero))) h k = refl
all_turn (suc (suc kind)) (suc zero) h k = refl
all_turn (suc (suc kind)) (suc (suc zero)) h k = refl
all_turn (suc (suc kind)) (suc (suc (suc zero))) h k = refl
all_turn kind (suc (suc (suc (suc n)))) h k = absurd (omega arith)

turned : (kind log2 i : ℕ) → 1 ≤ log2 → log2 ≤ 3 → i < 4 ^ log2
    → number_of (i % 2 ^ log2) (i / 2 ^ log2) (reverse (scan kind log2)) + number_of (i % 2 ^ log2) (i / 2 ^ log2) (scan kind log2) + 1 ≡ 4 ^ log2
unfolding turns
turned kind log2 i low high h = eqb-true _ _ (agree_below_at (turns kind log2) (λ k. true) (4 ^ log2) i (all_turn kind log2 low high) h)

-- a place of a square in rows
pub record IsNumbered (log2 x y i : ℕ) : Type 0 where
  pub column : i % 2 ^ log2 ≡ x
  pub row : i / 2 ^ log2 ≡ y
  pub below : i < 4 ^ log2

pub numbered : (log2 x y : ℕ) → 1 ≤ log2 → log2 ≤ 3 → x < 2 ^ log2 → y < 2 ^ log2 → IsNumbered log2 x y (y * 2 ^ log2 + x)
numbered zero x y h k a b = absurd (omega arith)
numbered (suc zero) x y h k a b = record { column = omega arith; row = omega arith; below = omega arith }
numbered (suc (suc zero)) x y h k a b = record { column = omega arith; row = omega arith; below = omega arith }
numbered (suc (suc (suc zero))) x y h k a b = record { column = omega arith; row = omega arith; below = omega arith }
numbered (suc (suc (suc (suc n)))) x y h k a b = absurd (omega arith)

pub backwards : (kind log2 x y : ℕ) → 1 ≤ log2 → log2 ≤ 3 → x < 2 ^ log2 → y < 2 ^ log2 → number_of x y (reverse (scan kind log2)) + number_of x y (scan kind log2) + 1 ≡ 4 ^ log2
backwards kind log2 x y low high wide tall =
    let n : IsNumbered log2 x y (y * 2 ^ log2 + x) = numbered log2 x y low high wide tall in
    let t = turned kind log2 (y * 2 ^ log2 + x) low high n.below in
    rw (n.column, n.row) at t

-- each place of a square has a number
pub there : (kind log2 x y : ℕ) → 1 ≤ log2 → log2 ≤ 3 → x < 2 ^ log2 → y < 2 ^ log2 → number_of x y (scan kind log2) < 4 ^ log2
there kind log2 x y low high wide tall = let b = backwards kind log2 x y low high wide tall in omega arith
