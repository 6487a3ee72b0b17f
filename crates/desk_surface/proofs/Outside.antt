-- Samples outside the coded picture are 0.
use Rattle.std.proofs.Common.{◌≡◌, ℕ, ◌-◌, ◌<◌, ◌≤◌, ◌&&◌, ◌⊎◌, List, ◌++◌, length, map, get_or, nat_lt, sym, ◌∙◌, inl, inr, arith, length-append}
use Rattle.std.proofs.lemmas.List.{places}
use Rattle.std.proofs.lemmas.Bool.{cases_lt, cond-false}
use Rattle.std.proofs.lemmas.Bool.Decides.{nat_tests}
use Rattle.std.proofs.lemmas.List.FromFn.{fill_by_all, get_or-map-range_with_len, length-map-range_with_len}
use Rattle.h265_model.specs.Plain.{coded, below}
use Rattle.px_plane.specs.Planes.{Planes, picture_of}

pub outside : (p : Planes) (c x y : ℕ) → (coded p.size.w ≤ x) ⊎ (coded p.size.h ≤ y) → picture_of p c x y ≡ 0
unfolding picture_of
outside p c x y (inl h) = cond-false (nat_lt x (coded p.size.w) && nat_lt y (coded p.size.h)) _ 0 (grind (arith, nat_tests))
outside p c x y (inr h) = cond-false (nat_lt x (coded p.size.w) && nat_lt y (coded p.size.h)) _ 0 (grind (arith, nat_tests))

-- a row of the places in the picture, with zeros up to 32
pub row_with_zeros : (f : ℕ → ℕ) (n : ℕ) (zeros : List ℕ) → n ≤ 32 → length zeros ≡ 32 - n → ((i : ℕ) → i < 32 - n → get_or zeros i 0 ≡ 0) → ((i : ℕ) → n ≤ i → i < 32 → f i ≡ 0) → map f (below n) ++ zeros ≡ map f (below 32)
row_with_zeros f n zeros most long none beyond =
    let front : length (map f (below n)) ≡ n = length-map-range_with_len f 0 n in
    fill_by_all f (map f (below n) ++ zeros) 32 0 (length-append (map f (below n)) zeros ∙ omega arith) (λ i less. elim (cases_lt i n) [
      | inl low ↦ at_front i low front ∙ get_or-map-range_with_len f 0 n i i 0 low (omega arith)
      | inr high ↦ at_back i high front (omega arith) ∙ (none (i - n) (omega arith) ∙ sym (beyond i high less))
    ])
  where
    at_front : (i : ℕ) → i < n → length (map f (below n)) ≡ n → get_or (map f (below n) ++ zeros) i 0 ≡ get_or (map f (below n)) i 0
    at_front i low front = grind (arith, places)

    at_back : (i : ℕ) → n ≤ i → length (map f (below n)) ≡ n → i < 32 → get_or (map f (below n) ++ zeros) i 0 ≡ get_or zeros (i - n) 0
    at_back i high front less = grind (arith, places)
