-- Coding units as squares of blocks of 8x8.
use Rattle.std.proofs.Common.{◌≡◌, refl, sym, ◌∙◌, ap, subst, ℕ, ◌+◌, ◌*◌, ◌-◌, ◌/◌, ◌%◌, ◌^◌, ◌<◌, ◌≤◌, Bool, true, false, cond, List, [], ◌∷◌, ◌++◌, get_or, arith, inl, inr, ◌⊎◌, Option, Some, None}
use Rattle.std.specs.Prelude.{nat_le, nat_lt}
use Rattle.std.specs.Option.{option_or}
use Rattle.std.proofs.lemmas.Bool.{cases_lt}
use Rattle.std.proofs.lemmas.Bool.Decides.{nat_tests}
use Rattle.std.proofs.lemmas.List.Folds.{find-append}
use Rattle.std.proofs.lemmas.Nat.{mul-le}
use Rattle.h265_model.specs.declared.leaf.Leaf.{Leaf}
use Rattle.h265_model.specs.Plain.{coded}
use Rattle.h265_model.specs.Tree.{leaf_at}
use Rattle.h265_model.specs.Plain.{covers}
use Rattle.pu_code.specs.declared.cell.Cell.{Cell}
use Rattle.pu_code.specs.Cells.{Cells, StandsFor, IsUnit, IsFilled, is_within, blocks, cell_of, cell_at, kept_of}

-- a side of 8, 16 or 32
abbrev IsSide : ℕ → Type 0
IsSide log2 = (log2 ≡ 3) ⊎ ((log2 ≡ 4) ⊎ (log2 ≡ 5))

sides : (log2 : ℕ) → 3 ≤ log2 → log2 ≤ 5 → IsSide log2
sides log2 low high = elim (cases_lt log2 4) [ inl a ↦ inl (omega arith) | inr a ↦ elim (cases_lt log2 5) [ inl b ↦ inr (inl (omega arith)) | inr b ↦ inr (inr (omega arith)) ] ]

-- what holds of the three sides, in samples and in blocks, holds of a unit's
each_side : (P : ℕ → ℕ → Type 0) (log2 : ℕ) → 3 ≤ log2 → log2 ≤ 5 → P 8 1 → P 16 2 → P 32 4 → P (2 ^ log2) (2 ^ (log2 - 3))
each_side P log2 low high a b c = go log2 (sides log2 low high)
  where
    go : (n : ℕ) → IsSide n → P (2 ^ n) (2 ^ (n - 3))
    go n (inl e) = subst (λ (k : ℕ). P (2 ^ k) (2 ^ (k - 3))) (sym e) a
    go n (inr (inl e)) = subst (λ (k : ℕ). P (2 ^ k) (2 ^ (k - 3))) (sym e) b
    go n (inr (inr e)) = subst (λ (k : ℕ). P (2 ^ k) (2 ^ (k - 3))) (sym e) c

-- a unit ends where the blocks do, or before
pub ends_within : (x log2 n : ℕ) → 3 ≤ log2 → log2 ≤ 5 → x % 2 ^ log2 ≡ 0 → x + 2 ^ log2 ≤ coded n → x / 8 + 2 ^ (log2 - 3) ≤ blocks n
ends_within x log2 n low high = each_side (λ s b. x % s ≡ 0 → x + s ≤ coded n → x / 8 + b ≤ blocks n) log2 low high (λ e h. omega arith) (λ e h. omega arith) (λ e h. omega arith)

pub tall_within : (bottom columns rows len : ℕ) → bottom ≤ rows → len ≡ columns * rows → bottom * columns ≤ len
tall_within bottom columns rows len h e =
    let k : bottom * columns ≤ rows * columns = mul-le bottom columns rows columns h (omega arith) in rw e (omega arith)

-- the tests of a place are those of its block
from_is : (x log2 p : ℕ) → 3 ≤ log2 → log2 ≤ 5 → x % 2 ^ log2 ≡ 0 → nat_le x p ≡ nat_le (x / 8) (p / 8)
from_is x log2 p low high = each_side (λ s b. x % s ≡ 0 → nat_le x p ≡ nat_le (x / 8) (p / 8)) log2 low high (λ e. grind (arith, nat_tests)) (λ e. grind (arith, nat_tests)) (λ e. grind (arith, nat_tests))

to_is : (x log2 p : ℕ) → 3 ≤ log2 → log2 ≤ 5 → x % 2 ^ log2 ≡ 0 → nat_lt p (x + 2 ^ log2) ≡ nat_lt (p / 8) (x / 8 + 2 ^ (log2 - 3))
to_is x log2 p low high = each_side (λ s b. x % s ≡ 0 → nat_lt p (x + s) ≡ nat_lt (p / 8) (x / 8 + b)) log2 low high (λ e. grind (arith, nat_tests)) (λ e. grind (arith, nat_tests)) (λ e. grind (arith, nat_tests))

covers_is : (x y : ℕ) (leaf : Leaf) → 3 ≤ leaf.block.log2 → leaf.block.log2 ≤ 5 → leaf.block.x % 2 ^ leaf.block.log2 ≡ 0 → leaf.block.y % 2 ^ leaf.block.log2 ≡ 0
    → covers x y leaf ≡ is_within (leaf.block.x / 8) (leaf.block.x / 8 + 2 ^ (leaf.block.log2 - 3)) (leaf.block.y / 8) (leaf.block.y / 8 + 2 ^ (leaf.block.log2 - 3)) (x / 8) (y / 8)
covers_is x y leaf low high column row =
    rw (from_is leaf.block.x leaf.block.log2 x low high column, to_is leaf.block.x leaf.block.log2 x low high column, from_is leaf.block.y leaf.block.log2 y low high row, to_is leaf.block.y leaf.block.log2 y low high row) refl

-- one leaf more at the end
appended : (w : Bool) (was : Option Leaf) (leaf : Leaf) → cond w (option_or (kept_of was) (Some (cell_of leaf))) (kept_of was) ≡ kept_of (option_or was (cond w (Some leaf) None))
appended true None leaf = refl
appended true (Some other) leaf = refl
appended false None leaf = refl
appended false (Some other) leaf = refl

at_end : (leaves : List Leaf) (leaf : Leaf) (x y : ℕ) → kept_of (leaf_at (leaves ++ leaf ∷ []) x y) ≡ kept_of (option_or (leaf_at leaves x y) (cond (covers x y leaf) (Some leaf) None))
at_end leaves leaf x y = ap kept_of (find-append (covers x y) leaves (leaf ∷ []))

-- with a unit's square filled, the cells stand for one leaf more
pub set_is : (old new : Cells) (leaf : Leaf) (side : ℕ) (cell : Cell) → IsUnit old.size leaf → new.size ≡ old.size → side ≡ 2 ^ (leaf.block.log2 - 3) → cell ≡ cell_of leaf
    → IsFilled old.cells new.cells (blocks old.size.w) (leaf.block.x / 8) (leaf.block.x / 8 + side) (leaf.block.y / 8) (leaf.block.y / 8 + side) cell
    → (leaves : List Leaf) → StandsFor old leaves → StandsFor new (leaves ++ leaf ∷ [])
set_is old new leaf side cell unit size long kept filled leaves stands = record {
  each = λ x y across down.
      let wide : x < coded old.size.w = subst (λ s. x < coded s.w) size across in
      let tall : y < coded old.size.h = subst (λ s. y < coded s.h) size down in
      let w : Bool = is_within (leaf.block.x / 8) (leaf.block.x / 8 + 2 ^ (leaf.block.log2 - 3)) (leaf.block.y / 8) (leaf.block.y / 8 + 2 ^ (leaf.block.log2 - 3)) (x / 8) (y / 8) in
      let here : cell_at new x y ≡ get_or new.cells (y / 8 * blocks old.size.w + x / 8) None = ap (λ s. get_or new.cells (y / 8 * blocks s.w + x / 8) None) size in
      let is : get_or new.cells (y / 8 * blocks old.size.w + x / 8) None ≡ cond w (option_or (cell_at old x y) (Some (cell_of leaf))) (cell_at old x y) =
      subst (λ k. get_or new.cells (y / 8 * blocks old.size.w + x / 8) None ≡ cond w (option_or (cell_at old x y) (Some k)) (cell_at old x y)) kept
      (subst (λ s. get_or new.cells (y / 8 * blocks old.size.w + x / 8) None ≡ cond (is_within (leaf.block.x / 8) (leaf.block.x / 8 + s) (leaf.block.y / 8) (leaf.block.y / 8 + s) (x / 8) (y / 8)) (option_or (cell_at old x y) (Some cell)) (cell_at old x y)) long
      (filled (x / 8) (y / 8) (omega arith))) in
      here ∙ (is ∙ (ap (λ c. cond w (option_or c (Some (cell_of leaf))) c) (stands.each x y wide tall)
      ∙ (appended w (leaf_at leaves x y) leaf ∙ (ap (λ b. kept_of (option_or (leaf_at leaves x y) (cond b (Some leaf) None))) (sym (covers_is x y leaf unit.low unit.high unit.column unit.row)) ∙ sym (at_end leaves leaf x y)))));
}
