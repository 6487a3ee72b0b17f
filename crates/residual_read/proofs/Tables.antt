-- The tables of numbers, against the scans.
use Rattle.std.proofs.Common.{◌≡◌, refl, sym, ◌∙◌, ap, ℕ, ◌+◌, ◌*◌, ◌/◌, ◌%◌, ◌^◌, ◌<◌, ◌≤◌, List, get_or, arith}
use Rattle.std.proofs.lemmas.List.FromFn.{get_or-map-range_with_len}
use Rattle.h265_model.specs.Residual.{scan, number_of}
use Rattle.residual_read.specs.Whole.{numbers_of}
use Rattle.residual_read.specs.declared.numbers.TheConstants.{DIAGONAL_4, DIAGONAL_8, HORIZONTAL_4, HORIZONTAL_8, VERTICAL_4, VERTICAL_8}
use Rattle.scan_orders.proofs.Backwards.{IsNumbered, numbered}

pub diagonal_4 : DIAGONAL_4 ≡ numbers_of 0 2
unfolding scan
diagonal_4 = refl

pub diagonal_8 : DIAGONAL_8 ≡ numbers_of 0 3
unfolding scan
diagonal_8 = refl

pub horizontal_4 : HORIZONTAL_4 ≡ numbers_of 1 2
unfolding scan
horizontal_4 = refl

pub horizontal_8 : HORIZONTAL_8 ≡ numbers_of 1 3
unfolding scan
horizontal_8 = refl

pub vertical_4 : VERTICAL_4 ≡ numbers_of 2 2
unfolding scan
vertical_4 = refl

pub vertical_8 : VERTICAL_8 ≡ numbers_of 2 3
unfolding scan
vertical_8 = refl

pub numbers_as : (kind log2 k l : ℕ) (table : List ℕ) → kind ≡ k → log2 ≡ l → table ≡ numbers_of k l → table ≡ numbers_of kind log2
numbers_as kind log2 k l table e f h = h ∙ ap (λ i. numbers_of i l) (sym e) ∙ ap (λ i. numbers_of kind i) (sym f)

-- the entry of a place
pub number_at : (kind log2 x y : ℕ) → 1 ≤ log2 → log2 ≤ 3 → x < 2 ^ log2 → y < 2 ^ log2 → get_or (numbers_of kind log2) (y * 2 ^ log2 + x) 0 ≡ number_of x y (scan kind log2)
number_at kind log2 x y low high wide tall =
    let n : IsNumbered log2 x y (y * 2 ^ log2 + x) = numbered log2 x y low high wide tall in
    let z : 0 + (y * 2 ^ log2 + x) ≡ y * 2 ^ log2 + x = omega arith in
    get_or-map-range_with_len (λ i. number_of (i % 2 ^ log2) (i / 2 ^ log2) (scan kind log2)) 0 (4 ^ log2) (y * 2 ^ log2 + x) (y * 2 ^ log2 + x) 0 n.below z
    ∙ ap (λ i. number_of i ((y * 2 ^ log2 + x) / 2 ^ log2) (scan kind log2)) n.column
    ∙ ap (λ i. number_of x i (scan kind log2)) n.row
