-- The 16 levels of a sub-block.
use Rattle.std.proofs.Common.{◌≡◌, refl, sym, ◌∙◌, ap, ℕ, zero, suc, ◌+◌, ◌*◌, ◌/◌, ◌%◌, ◌<◌, ◌≤◌, Bool, true, false, not, ◌||◌, inl, inr, List, ◌∷◌, length, get_or, arith}
use Rattle.std.specs.Prelude.{ℤ, pos}
use Rattle.std.proofs.Math.Nat.{eq-or-lt_of_le}
use Rattle.h265_model.specs.Residual.{is_zero, scan, place_at, number_of}
use Rattle.residual_code.specs.Parts.{tile_at, tile_levels, down}
use Rattle.residual_code.proofs.Zeros.{any_level, none_at, none_of, zero_is, is_zero_at}
use Rattle.scan_orders.proofs.ScanPlaces.{number_found, covered, scan_long}

-- none of the values below a bound is a level
pub down_none : (f : ℕ → ℤ) (n : ℕ) → ((i : ℕ) → i < n → f i ≡ pos 0) → any_level (down f n) ≡ false
unfolding down
down_none f zero h = refl
down_none f (suc n) h = let e : is_zero (f n) ≡ true = is_zero_at (f n) (h n (omega arith)) in rw e (down_none f n (λ i k. h i (omega arith)))

first_none : (v : ℤ) (levels : List ℤ) → any_level (v ∷ levels) ≡ false → (v ≡ pos 0) × (any_level levels ≡ false)
first_none v levels h = go (is_zero v) refl h
  where
    go : (b : Bool) → is_zero v ≡ b → (not b || any_level levels) ≡ false → (v ≡ pos 0) × (any_level levels ≡ false)
    go true e k = (zero_is v e, k)
    go false e k = absurd (cc)

pub none_down : (f : ℕ → ℤ) (n : ℕ) → any_level (down f n) ≡ false → (i : ℕ) → i < n → f i ≡ pos 0
unfolding down
none_down f zero h i k = absurd (omega arith)
none_down f (suc n) h i k =
    let p : (f n ≡ pos 0) × (any_level (down f n) ≡ false) = first_none (f n) (down f n) h in
    let low : i ≤ n = omega arith in
    elim (eq-or-lt_of_le low) [ inl e ↦ ap f e ∙ p.0 | inr less ↦ none_down f n p.1 i less ]

-- a sub-block has a level where its 16 levels in rows have one
pub tile_some : (kind : ℕ) (tile : List ℤ) → length tile ≡ 16 → any_level tile ≡ any_level (tile_levels kind tile 16)
tile_some kind tile long = go (any_level tile) refl (any_level (tile_levels kind tile 16)) refl
  where
    f : ℕ → ℤ
    f i = tile_at tile (place_at (scan kind 2) i)

    -- each of the 16 levels is one of the scan
    at_place : ((i : ℕ) → i < 16 → tile_at tile (place_at (scan kind 2) i) ≡ pos 0) → (j : ℕ) → j < length tile → get_or tile j (pos 0) ≡ pos 0
    at_place h j k =
        let c : number_of (j % 4) (j / 4) (scan kind 2) < 16 = covered kind 2 j (omega arith) (omega arith) (omega arith) in
        let l : length (scan kind 2) ≡ 16 = scan_long kind 2 (omega arith) (omega arith) in
        let p : place_at (scan kind 2) (number_of (j % 4) (j / 4) (scan kind 2)) ≡ (j % 4, j / 4) = number_found (j % 4) (j / 4) (scan kind 2) (omega arith) in
        let e : j ≡ 4 * (j / 4) + j % 4 = omega arith in
        ap (λ i. get_or tile i (pos 0)) e ∙ (ap (tile_at tile) (sym p) ∙ h (number_of (j % 4) (j / 4) (scan kind 2)) c)

    go : (a : Bool) → any_level tile ≡ a → (b : Bool) → any_level (tile_levels kind tile 16) ≡ b → any_level tile ≡ any_level (tile_levels kind tile 16)
    go true e true k = e ∙ sym k
    go false e false k = e ∙ sym k
    go false e true k = absurd (let n : any_level (tile_levels kind tile 16) ≡ false = down_none (λ i. tile_at tile (place_at (scan kind 2) i)) 16 (λ i h. none_at tile e _) in cc)
    go true e false k = absurd (let n : any_level tile ≡ false = none_of tile (at_place (none_down (λ i. tile_at tile (place_at (scan kind 2) i)) 16 k)) in cc)
