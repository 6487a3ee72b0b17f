-- Places of a scan and their numbers.
use Rattle.std.proofs.Common.{◌≡◌, refl, ◌∙◌, ap, ℕ, zero, suc, ◌+◌, ◌/◌, ◌%◌, ◌^◌, ◌<◌, ◌≤◌, Bool, true, false, cond, ◌&&◌, List, [], ◌∷◌, length, arith}
use Rattle.std.specs.Prelude.{◌==◌, nat_lt}
use Rattle.std.proofs.lemmas.Bool.{agree_below, agree_below_at, and_parts, eqb-true, ltb-true}
use Rattle.h265_model.specs.Residual.{scan, place_at, number_of}

-- each place has its number, lies in the square, and comes before the places on its right and below
fits : ℕ → ℕ → ℕ → Bool
fits kind log2 i =
    let p : ℕ × ℕ = place_at (scan kind log2) i in
    number_of p.0 p.1 (scan kind log2) == i && (nat_lt p.0 (2 ^ log2) && (nat_lt p.1 (2 ^ log2)
    && (nat_lt i (number_of (p.0 + 1) p.1 (scan kind log2)) && nat_lt i (number_of p.0 (p.1 + 1) (scan kind log2)))))

-- each place of the square is there
covers : ℕ → ℕ → ℕ → Bool
covers kind log2 i = nat_lt (number_of (i % 2 ^ log2) (i / 2 ^ log2) (scan kind log2)) (4 ^ log2)

all_fit : (kind log2 : ℕ) → 1 ≤ log2 → log2 ≤ 3 → agree_below (fits kind log2) (λ i. true) (4 ^ log2) ≡ true
unfolding fits scan
all_fit kind zero h k = absurd (omega arith)
all_fit zero (suc zero) h k = refl
all_fit zero (suc (suc zero)) h k = refl
all_fit zero (suc (suc (suc zero))) h k = refl
all_fit (suc zero) (suc zero) h k = refl
all_fit (suc zero) (suc (suc zero)) h k = refl
all_fit (suc zero) (suc (suc (suc zero))) h k = refl
all_fit (suc (suc kind)) (suc zero) h k = refl
all_fit (suc (suc kind)) (suc (suc zero)) h k = refl
all_fit (suc (suc kind)) (suc (suc (suc zero))) h k = refl
all_fit kind (suc (suc (suc (suc n)))) h k = absurd (omega arith)

all_covered : (kind log2 : ℕ) → 1 ≤ log2 → log2 ≤ 3 → agree_below (covers kind log2) (λ i. true) (4 ^ log2) ≡ true
unfolding covers scan
all_covered kind zero h k = absurd (omega arith)
all_covered zero (suc zero) h k = refl
all_covered zero (suc (suc zero)) h k = refl
all_covered zero (suc (suc (suc zero))) h k = refl
all_covered (suc zero) (suc zero) h k = refl
all_covered (suc zero) (suc (suc zero)) h k = refl
all_covered (suc zero) (suc (suc (suc zero))) h k = refl
all_covered (suc (suc kind)) (suc zero) h k = refl
all_covered (suc (suc kind)) (suc (suc zero)) h k = refl
all_covered (suc (suc kind)) (suc (suc (suc zero))) h k = refl
all_covered kind (suc (suc (suc (suc n)))) h k = absurd (omega arith)

pub scan_long : (kind log2 : ℕ) → 1 ≤ log2 → log2 ≤ 3 → length (scan kind log2) ≡ 4 ^ log2
unfolding scan
scan_long kind zero h k = absurd (omega arith)
scan_long zero (suc zero) h k = refl
scan_long zero (suc (suc zero)) h k = refl
scan_long zero (suc (suc (suc zero))) h k = refl
scan_long (suc zero) (suc zero) h k = refl
scan_long (suc zero) (suc (suc zero)) h k = refl
scan_long (suc zero) (suc (suc (suc zero))) h k = refl
scan_long (suc (suc kind)) (suc zero) h k = refl
scan_long (suc (suc kind)) (suc (suc zero)) h k = refl
scan_long (suc (suc kind)) (suc (suc (suc zero))) h k = refl
scan_long kind (suc (suc (suc (suc n)))) h k = absurd (omega arith)

pub record IsPlaced (kind log2 i : ℕ) : Type 0 where
  pub number : number_of (place_at (scan kind log2) i).0 (place_at (scan kind log2) i).1 (scan kind log2) ≡ i
  pub x : (place_at (scan kind log2) i).0 < 2 ^ log2
  pub y : (place_at (scan kind log2) i).1 < 2 ^ log2
  pub right : i < number_of ((place_at (scan kind log2) i).0 + 1) (place_at (scan kind log2) i).1 (scan kind log2)
  pub below : i < number_of (place_at (scan kind log2) i).0 ((place_at (scan kind log2) i).1 + 1) (scan kind log2)

pub placed : (kind log2 i : ℕ) → 1 ≤ log2 → log2 ≤ 3 → i < 4 ^ log2 → IsPlaced kind log2 i
unfolding fits
placed kind log2 i low high h =
    let fit : fits kind log2 i ≡ true = agree_below_at (fits kind log2) (λ k. true) (4 ^ log2) i (all_fit kind log2 low high) h in
    let a = and_parts _ _ fit in
    let b = and_parts _ _ a.1 in
    let c = and_parts _ _ b.1 in
    let d = and_parts _ _ c.1 in
    record { number = eqb-true _ _ a.0; x = ltb-true _ _ b.0; y = ltb-true _ _ c.0; right = ltb-true _ _ d.0; below = ltb-true _ _ d.1 }

pub covered : (kind log2 i : ℕ) → 1 ≤ log2 → log2 ≤ 3 → i < 4 ^ log2 → number_of (i % 2 ^ log2) (i / 2 ^ log2) (scan kind log2) < 4 ^ log2
unfolding covers
covered kind log2 i low high h = ltb-true _ _ (agree_below_at (covers kind log2) (λ k. true) (4 ^ log2) i (all_covered kind log2 low high) h)

-- the place with the number of a place
pub number_found : (x y : ℕ) (places : List (ℕ × ℕ)) → number_of x y places < length places → place_at places (number_of x y places) ≡ (x, y)
number_found x y [] h = absurd (omega arith)
number_found x y (p ∷ places) h = go (p.0 == x) refl (p.1 == y) refl h (number_found x y places)
  where
    later : ℕ
    later = suc (number_of x y places)

    go : (a : Bool) → (p.0 == x) ≡ a → (b : Bool) → (p.1 == y) ≡ b → (cond (a && b) 0 later) < suc (length places)
        → (number_of x y places < length places → place_at places (number_of x y places) ≡ (x, y))
        → place_at (p ∷ places) (cond (a && b) 0 later) ≡ (x, y)
    go true e true f k rest = ap (λ m. (m, p.1)) (eqb-true _ _ e) ∙ ap (λ m. (x, m)) (eqb-true _ _ f)
    go true e false f k rest = rest (omega arith)
    go false e b f k rest = rest (omega arith)

-- a place of a sub-block by its number
pub place_low : (kind k : ℕ) (p : ℕ × ℕ) → k < 16 → p ≡ place_at (scan kind 2) k → (p.0 < 4) × (p.1 < 4)
place_low kind k p h e = let at : IsPlaced kind 2 k = placed kind 2 k (omega arith) (omega arith) h in rw e (at.x, at.y)
