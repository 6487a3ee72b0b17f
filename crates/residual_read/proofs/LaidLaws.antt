-- What stands in each place once a sub-block's levels are laid.
use Rattle.std.proofs.Common.{◌≡◌, ◌≢◌, refl, sym, ◌∙◌, ap, ℕ, zero, suc, ◌+◌, ◌-◌, ◌*◌, ◌/◌, ◌%◌, ◌^◌, ◌<◌, ◌≤◌, Bool, true, false, inl, inr, List, [], ◌∷◌, length, get_or, set, drop, get_or-set_other, get_or-set_same, arith}
use Rattle.std.proofs.Math.Nat.{eq-or-lt_of_le}
use Rattle.std.proofs.lemmas.List.{length-set, get_or-drop}
use Rattle.std.specs.Prelude.{◌==◌, if◌then◌else◌, ℤ, pos}
use Rattle.h265_model.specs.Bits.{u}
use Rattle.h265_model.specs.Residual.{place_at, scan, spread}
use Rattle.bin_items.specs.Square.{place}
use Rattle.residual_read.specs.Parts.{laid}

-- where the place with this number of a sub-block stands in the block
abbrev pub at_place : ℕ → ℕ → ℕ × ℕ → ℕ → ℕ
at_place kind log2 sub k = place log2 (4 * sub.0 + (place_at (scan kind 2) k).0) (4 * sub.1 + (place_at (scan kind 2) k).1)

abbrev by_flag : Bool → ℕ → ℕ → ℕ × ℕ → ℕ → List ℤ → ℕ → ℕ → List ℤ → List ℤ
by_flag flag kind log2 sub mask values j k levels =
    if flag
    then laid kind log2 sub mask values (j + 1) k (set levels (at_place kind log2 sub k) (get_or values j (pos 0)))
    else laid kind log2 sub mask values j k levels

laid_suc : (kind log2 : ℕ) (sub : ℕ × ℕ) (mask : ℕ) (values : List ℤ) (j k : ℕ) (levels : List ℤ)
    → laid kind log2 sub mask values j (suc k) levels ≡ by_flag (mask / 2 ^ k % 2 == 1) kind log2 sub mask values j k levels
unfolding laid
laid_suc kind log2 sub mask values j k levels = refl

laid_zero : (kind log2 : ℕ) (sub : ℕ × ℕ) (mask : ℕ) (values : List ℤ) (j : ℕ) (levels : List ℤ) → laid kind log2 sub mask values j zero levels ≡ levels
unfolding laid
laid_zero kind log2 sub mask values j levels = refl

-- as many levels as before
long_step : (kind log2 : ℕ) (sub : ℕ × ℕ) (mask : ℕ) (values : List ℤ) (j k : ℕ) (levels : List ℤ) → ((i : ℕ) (other : List ℤ) → length (laid kind log2 sub mask values i k other) ≡ length other)
    → (b : Bool) → length (by_flag b kind log2 sub mask values j k levels) ≡ length levels
long_step kind log2 sub mask values j k levels h true =
    h (j + 1) (set levels (at_place kind log2 sub k) (get_or values j (pos 0))) ∙ length-set levels (at_place kind log2 sub k) (get_or values j (pos 0))
long_step kind log2 sub mask values j k levels h false = h j levels

pub laid_long : (kind log2 : ℕ) (sub : ℕ × ℕ) (mask : ℕ) (values : List ℤ) (j k : ℕ) (levels : List ℤ) → length (laid kind log2 sub mask values j k levels) ≡ length levels
laid_long kind log2 sub mask values j zero levels = ap (λ (l : List ℤ). length l) (laid_zero kind log2 sub mask values j levels)
laid_long kind log2 sub mask values j (suc k) levels =
    ap (λ (l : List ℤ). length l) (laid_suc kind log2 sub mask values j k levels)
    ∙ long_step kind log2 sub mask values j k levels (λ i other. laid_long kind log2 sub mask values i k other) (mask / 2 ^ k % 2 == 1)

-- other places stay as they are
other_step : (kind log2 : ℕ) (sub : ℕ × ℕ) (mask : ℕ) (values : List ℤ) (j k n : ℕ) (levels : List ℤ) → n ≢ at_place kind log2 sub k
    → ((i : ℕ) (other : List ℤ) → get_or (laid kind log2 sub mask values i k other) n (pos 0) ≡ get_or other n (pos 0))
    → (b : Bool) → get_or (by_flag b kind log2 sub mask values j k levels) n (pos 0) ≡ get_or levels n (pos 0)
other_step kind log2 sub mask values j k n levels ne h true =
    h (j + 1) (set levels (at_place kind log2 sub k) (get_or values j (pos 0))) ∙ get_or-set_other levels (at_place kind log2 sub k) n (get_or values j (pos 0)) (pos 0) ne
other_step kind log2 sub mask values j k n levels ne h false = h j levels

pub laid_other : (kind log2 : ℕ) (sub : ℕ × ℕ) (mask : ℕ) (values : List ℤ) (j k n : ℕ) (levels : List ℤ) → ((i : ℕ) → i < k → n ≢ at_place kind log2 sub i)
    → get_or (laid kind log2 sub mask values j k levels) n (pos 0) ≡ get_or levels n (pos 0)
laid_other kind log2 sub mask values j zero n levels ne = ap (λ (l : List ℤ). get_or l n (pos 0)) (laid_zero kind log2 sub mask values j levels)
laid_other kind log2 sub mask values j (suc k) n levels ne =
    ap (λ (l : List ℤ). get_or l n (pos 0)) (laid_suc kind log2 sub mask values j k levels)
    ∙ other_step kind log2 sub mask values j k n levels (ne k (omega arith)) (λ i other. laid_other kind log2 sub mask values i k n other (λ m lt. ne m (omega arith))) (mask / 2 ^ k % 2 == 1)

-- ---- the places of the sub-block

spread_some : (flags : List Bool) (values : List ℤ) → spread (true ∷ flags) values ≡ get_or values 0 (pos 0) ∷ spread flags (drop 1 values)
spread_some flags [] = refl
spread_some flags (v ∷ values) = refl

drop_more : (values : List ℤ) (j : ℕ) → drop 1 (drop j values) ≡ drop (suc j) values
drop_more [] zero = refl
drop_more [] (suc j) = refl
drop_more (v ∷ values) zero = refl
drop_more (v ∷ values) (suc j) = drop_more values j

spread_at : (flags : List Bool) (values : List ℤ) (j : ℕ) → spread (true ∷ flags) (drop j values) ≡ get_or values j (pos 0) ∷ spread flags (drop (j + 1) values)
spread_at flags values j =
    let a : get_or (drop j values) 0 (pos 0) ≡ get_or values (j + 0) (pos 0) = get_or-drop j values 0 (pos 0) in
    let z : j + 0 ≡ j = omega arith in
    let n : suc j ≡ j + 1 = omega arith in
    spread_some flags (drop j values)
    ∙ ap (λ v. v ∷ spread flags (drop 1 (drop j values))) (a ∙ ap (λ i. get_or values i (pos 0)) z)
    ∙ ap (λ (l : List ℤ). get_or values j (pos 0) ∷ spread flags l) (drop_more values j ∙ ap (λ i. drop i values) n)

-- places of a sub-block are places of the block, each with its number
pub record AreApart (kind log2 : ℕ) (sub : ℕ × ℕ) (long : ℕ) : Type 0 where
  pub inside : (i : ℕ) → i < 16 → at_place kind log2 sub i < long
  pub apart : (i k : ℕ) → i < 16 → k < 16 → i ≢ k → at_place kind log2 sub i ≢ at_place kind log2 sub k

abbrev AreZeros : ℕ → ℕ → ℕ × ℕ → ℕ → List ℤ → Type 0
AreZeros kind log2 sub k levels = (i : ℕ) → i < k → get_or levels (at_place kind log2 sub i) (pos 0) ≡ pos 0

abbrev IsSpread : ℕ → ℕ → ℕ × ℕ → ℕ → List ℤ → ℕ → Type 0
IsSpread kind log2 sub mask values k = (j i : ℕ) (levels : List ℤ) → i < k → AreApart kind log2 sub (length levels) → AreZeros kind log2 sub k levels
    → get_or (laid kind log2 sub mask values j k levels) (at_place kind log2 sub i) (pos 0) ≡ get_or (spread (u k mask) (drop j values)) (k - 1 - i) (pos 0)

-- the place with the greatest number is the first
first_index : (k i : ℕ) → i ≡ k → suc k - 1 - i ≡ 0
first_index k i e = omega arith

later_index : (k i : ℕ) → i < k → suc k - 1 - i ≡ suc (k - 1 - i)
later_index k i h = omega arith

apart_as : (kind log2 : ℕ) (sub : ℕ × ℕ) (n m : ℕ) → n ≡ m → AreApart kind log2 sub n → AreApart kind log2 sub m
apart_as kind log2 sub n m e h = record { inside = λ i lt. let p = h.inside i lt in omega arith; apart = h.apart }

spread_step : (kind log2 : ℕ) (sub : ℕ × ℕ) (mask : ℕ) (values : List ℤ) (j k i : ℕ) (levels : List ℤ) → suc k ≤ 16 → i < suc k → AreApart kind log2 sub (length levels) → AreZeros kind log2 sub (suc k) levels
    → IsSpread kind log2 sub mask values k → (b : Bool)
    → get_or (by_flag b kind log2 sub mask values j k levels) (at_place kind log2 sub i) (pos 0) ≡ get_or (spread (b ∷ u k mask) (drop j values)) (suc k - 1 - i) (pos 0)
spread_step kind log2 sub mask values j k i levels few h apart zeros is b = elim (eq-or-lt_of_le (le h)) [
  | inl e ↦ here b e
  | inr lt ↦ there b lt
]
  where
    le : i < suc k → i ≤ k
    le h = omega arith

    others : i ≡ k → (m : ℕ) → m < k → at_place kind log2 sub i ≢ at_place kind log2 sub m
    others e m lt = apart.apart i m (omega arith) (omega arith) (λ s. omega arith)

    here : (b : Bool) → i ≡ k → get_or (by_flag b kind log2 sub mask values j k levels) (at_place kind log2 sub i) (pos 0) ≡ get_or (spread (b ∷ u k mask) (drop j values)) (suc k - 1 - i) (pos 0)
    here true e =
        laid_other kind log2 sub mask values (j + 1) k (at_place kind log2 sub i) (set levels (at_place kind log2 sub k) (get_or values j (pos 0))) (others e)
        ∙ ap (λ m. get_or (set levels (at_place kind log2 sub k) (get_or values j (pos 0))) (at_place kind log2 sub m) (pos 0)) e
        ∙ get_or-set_same levels (at_place kind log2 sub k) (get_or values j (pos 0)) (pos 0) (apart.inside k few)
        ∙ sym (ap (λ (l : List ℤ). get_or l (suc k - 1 - i) (pos 0)) (spread_at (u k mask) values j)
        ∙ ap (λ n. get_or (get_or values j (pos 0) ∷ spread (u k mask) (drop (j + 1) values)) n (pos 0)) (first_index k i e))
    here false e =
        laid_other kind log2 sub mask values j k (at_place kind log2 sub i) levels (others e)
        ∙ zeros i h
        ∙ sym (ap (λ n. get_or (pos 0 ∷ spread (u k mask) (drop j values)) n (pos 0)) (first_index k i e))

    still : AreZeros kind log2 sub k (set levels (at_place kind log2 sub k) (get_or values j (pos 0)))
    still m lt =
        get_or-set_other levels (at_place kind log2 sub k) (at_place kind log2 sub m) (get_or values j (pos 0)) (pos 0) (apart.apart m k (omega arith) (omega arith) (λ s. omega arith))
        ∙ zeros m (omega arith)

    there : (b : Bool) → i < k → get_or (by_flag b kind log2 sub mask values j k levels) (at_place kind log2 sub i) (pos 0) ≡ get_or (spread (b ∷ u k mask) (drop j values)) (suc k - 1 - i) (pos 0)
    there true lt =
        is (j + 1) i (set levels (at_place kind log2 sub k) (get_or values j (pos 0))) lt
        (apart_as kind log2 sub (length levels) (length (set levels (at_place kind log2 sub k) (get_or values j (pos 0)))) (sym (length-set levels (at_place kind log2 sub k) (get_or values j (pos 0)))) apart) still
        ∙ sym (ap (λ (l : List ℤ). get_or l (suc k - 1 - i) (pos 0)) (spread_at (u k mask) values j)
        ∙ ap (λ n. get_or (get_or values j (pos 0) ∷ spread (u k mask) (drop (j + 1) values)) n (pos 0)) (later_index k i lt))
    there false lt =
        is j i levels lt apart (λ m l. zeros m (omega arith))
        ∙ sym (ap (λ n. get_or (pos 0 ∷ spread (u k mask) (drop j values)) n (pos 0)) (later_index k i lt))

-- the levels of a sub-block of zeros are those that are spread out, the one with the greatest number first
pub laid_here : (kind log2 : ℕ) (sub : ℕ × ℕ) (mask : ℕ) (values : List ℤ) (k : ℕ) → k ≤ 16 → IsSpread kind log2 sub mask values k
unfolding u
laid_here kind log2 sub mask values zero few = λ j i levels h apart zeros. absurd (omega arith)
laid_here kind log2 sub mask values (suc k) few = λ j i levels h apart zeros.
    ap (λ (l : List ℤ). get_or l (at_place kind log2 sub i) (pos 0)) (laid_suc kind log2 sub mask values j k levels)
    ∙ spread_step kind log2 sub mask values j k i levels few h apart zeros (laid_here kind log2 sub mask values k (omega arith)) (mask / 2 ^ k % 2 == 1)
