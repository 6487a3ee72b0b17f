-- Coding units as squares of blocks of 8x8.
use Rattle.std.proofs.Common.{◌≡◌, refl, sym, ◌∙◌, ap, subst, ℕ, zero, suc, ◌+◌, ◌*◌, ◌-◌, ◌/◌, ◌%◌, ◌^◌, ◌<◌, ◌≤◌, Bool, true, false, cond, List, [], ◌∷◌, ◌++◌, get_or, arith, inl, inr, ◌⊎◌, Option, Some, None}
use Rattle.std.specs.Prelude.{nat_le, nat_lt, ◌&&◌, length}
use Rattle.std.proofs.lemmas.List.{get_or_default, places}
use Rattle.std.specs.List.{AllByRecursion}
use Rattle.std.specs.Option.{option_or}
use Rattle.std.proofs.lemmas.Bool.{cases_lt, and_parts, and_from, lt-ltb, ltb-true, cond-true, cond-false}
use Rattle.std.proofs.lemmas.Bool.Decides.{nat_tests}
use Rattle.std.proofs.lemmas.List.Folds.{find-append}
use Rattle.std.proofs.lemmas.Nat.{mul-le}
use Rattle.h265_model.specs.declared.leaf.Kind.{Kind}
use Rattle.h265_model.specs.declared.leaf.Leaf.{Leaf}
use Rattle.h265_model.specs.declared.moves.Vector.{Vector}
use Rattle.h265_model.specs.Plain.{block_at, Size, coded, covers}
use Rattle.h265_model.specs.Motion.{Moving}
use Rattle.motion_grid.specs.declared.cells.Cell.{Cell}
use Rattle.motion_grid.specs.Cells.{Cells, AreCells, HasMotion, IsFilled, is_within, blocks, cell_at, kept_of, unit_at, coded_unit}

-- a side of 8, 16 or 32
abbrev IsSide : ℕ → Type 0
IsSide log2 = (log2 ≡ 3) ⊎ ((log2 ≡ 4) ⊎ (log2 ≡ 5))

sides : (log2 : ℕ) → 3 ≤ log2 → log2 ≤ 5 → IsSide log2
sides log2 low high = elim (cases_lt log2 4) [ inl a ↦ inl (omega arith) | inr a ↦ elim (cases_lt log2 5) [ inl b ↦ inr (inl (omega arith)) | inr b ↦ inr (inr (omega arith)) ] ]

-- what holds of the three sides, in samples and in blocks, holds of a unit's
each_side : (P : ℕ → ℕ → Type 0) (log2 : ℕ) → 3 ≤ log2 → log2 ≤ 5 → P 8 1 → P 16 2 → P 32 4 → P (2 ^ log2) (2 ^ (log2 - 3))
each_side P log2 low high a b c = go log2 (sides log2 low high)
  where
    go : (n : ℕ) → IsSide n → P (2 ^ n) (2 ^ (n - 3))
    go n (inl e) = subst (λ (k : ℕ). P (2 ^ k) (2 ^ (k - 3))) (sym e) a
    go n (inr (inl e)) = subst (λ (k : ℕ). P (2 ^ k) (2 ^ (k - 3))) (sym e) b
    go n (inr (inr e)) = subst (λ (k : ℕ). P (2 ^ k) (2 ^ (k - 3))) (sym e) c

-- a unit ends where the blocks do, or before
pub ends_within : (x log2 n : ℕ) → 3 ≤ log2 → log2 ≤ 5 → x % 2 ^ log2 ≡ 0 → x + 2 ^ log2 ≤ coded n → x / 8 + 2 ^ (log2 - 3) ≤ blocks n
ends_within x log2 n low high = each_side (λ s b. x % s ≡ 0 → x + s ≤ coded n → x / 8 + b ≤ blocks n) log2 low high (λ e h. omega arith) (λ e h. omega arith) (λ e h. omega arith)

pub tall_within : (bottom columns rows len : ℕ) → bottom ≤ rows → len ≡ columns * rows → bottom * columns ≤ len
tall_within bottom columns rows len h e =
    let k : bottom * columns ≤ rows * columns = mul-le bottom columns rows columns h (omega arith) in rw e (omega arith)

-- a side is from 8 to 32
pub side_bounds : (log2 : ℕ) → 3 ≤ log2 → log2 ≤ 5 → (8 ≤ 2 ^ log2) × (2 ^ log2 ≤ 32)
side_bounds log2 low high = each_side (λ s b. (8 ≤ s) × (s ≤ 32)) log2 low high (omega arith, omega arith) (omega arith, omega arith) (omega arith, omega arith)

-- the tests of a place are those of its block
from_is : (x log2 p : ℕ) → 3 ≤ log2 → log2 ≤ 5 → x % 2 ^ log2 ≡ 0 → nat_le x p ≡ nat_le (x / 8) (p / 8)
from_is x log2 p low high = each_side (λ s b. x % s ≡ 0 → nat_le x p ≡ nat_le (x / 8) (p / 8)) log2 low high (λ e. grind (arith, nat_tests)) (λ e. grind (arith, nat_tests)) (λ e. grind (arith, nat_tests))

to_is : (x log2 p : ℕ) → 3 ≤ log2 → log2 ≤ 5 → x % 2 ^ log2 ≡ 0 → nat_lt p (x + 2 ^ log2) ≡ nat_lt (p / 8) (x / 8 + 2 ^ (log2 - 3))
to_is x log2 p low high = each_side (λ s b. x % s ≡ 0 → nat_lt p (x + s) ≡ nat_lt (p / 8) (x / 8 + b)) log2 low high (λ e. grind (arith, nat_tests)) (λ e. grind (arith, nat_tests)) (λ e. grind (arith, nat_tests))

covers_is : (x y : ℕ) (leaf : Leaf) → 3 ≤ leaf.block.log2 → leaf.block.log2 ≤ 5 → leaf.block.x % 2 ^ leaf.block.log2 ≡ 0 → leaf.block.y % 2 ^ leaf.block.log2 ≡ 0
    → covers x y leaf ≡ is_within (leaf.block.x / 8) (leaf.block.x / 8 + 2 ^ (leaf.block.log2 - 3)) (leaf.block.y / 8) (leaf.block.y / 8 + 2 ^ (leaf.block.log2 - 3)) (x / 8) (y / 8)
covers_is x y leaf low high column row =
    rw (from_is leaf.block.x leaf.block.log2 x low high column, to_is leaf.block.x leaf.block.log2 x low high column, from_is leaf.block.y leaf.block.log2 y low high row, to_is leaf.block.y leaf.block.log2 y low high row) refl

-- a place of the coded picture is one of the cells
place_within : (a b columns rows : ℕ) → a < columns → b < rows → b * columns + a < columns * rows
place_within a b columns rows h k = let m : (b + 1) * columns ≤ rows * columns = mul-le (b + 1) columns rows columns (omega arith) (omega arith) in omega arith

inside_from : (size : Size) (x y right bottom : ℕ) → right ≤ coded size.w → bottom ≤ coded size.h → x < right → y < bottom → (nat_lt x (coded size.w) && nat_lt y (coded size.h)) ≡ true
inside_from size x y right bottom a b h k = and_from _ _ (lt-ltb x (coded size.w) (omega arith)) (lt-ltb y (coded size.h) (omega arith))

-- a place of a unit is in the picture that has the unit
covered_inside : (size : Size) (leaf : Leaf) (x y : ℕ) → leaf.block.x + 2 ^ leaf.block.log2 ≤ coded size.w → leaf.block.y + 2 ^ leaf.block.log2 ≤ coded size.h → covers x y leaf ≡ true
    → (nat_lt x (coded size.w) && nat_lt y (coded size.h)) ≡ true
covered_inside size leaf x y across down h =
    let p = and_parts _ _ h in
    let q = and_parts _ _ p.0 in
    let r = and_parts _ _ q.0 in
    let right : x < leaf.block.x + 2 ^ leaf.block.log2 = ltb-true _ _ r.1 in
    let bottom : y < leaf.block.y + 2 ^ leaf.block.log2 = ltb-true _ _ p.1 in
    inside_from size x y (leaf.block.x + 2 ^ leaf.block.log2) (leaf.block.y + 2 ^ leaf.block.log2) across down right bottom

-- one unit more at the end
appended : (w : Bool) (was : Option Moving) (unit : Moving) → cond w (option_or (kept_of was) (Some (record { vector = unit.vector }))) (kept_of was) ≡ kept_of (option_or was (cond w (Some unit) None))
appended true None unit = refl
appended true (Some other) unit = refl
appended false None unit = refl
appended false (Some other) unit = refl

at_end : (units : List Moving) (unit : Moving) (x y : ℕ) → kept_of (unit_at (units ++ unit ∷ []) x y) ≡ kept_of (option_or (unit_at units x y) (cond (covers x y unit.leaf) (Some unit) None))
at_end units unit x y = ap kept_of (find-append (λ (u : Moving). covers x y u.leaf) units (unit ∷ []))

-- there is nothing beyond the cells
beyond : (cells : List (Option Cell)) (i : ℕ) → length cells ≤ i → get_or cells i None ≡ None
beyond cells i h = grind (arith, places)

-- no unit is set
pub none_set : (g : Cells) → ((i : ℕ) → i < length g.cells → get_or g.cells i None ≡ None) → HasMotion g []
unfolding cell_at
none_set g e = record { each = λ x y. go (nat_lt x (coded g.size.w) && nat_lt y (coded g.size.h)) (y / 8 * blocks g.size.w + x / 8) }
  where
    go : (t : Bool) (i : ℕ) → cond t (get_or g.cells i None) None ≡ None
    go true i = elim (cases_lt i (length g.cells)) [ inl h ↦ e i h | inr h ↦ beyond g.cells i h ]
    go false i = refl

-- what is kept of a block, inside and outside
pub cell_inside : (g : Cells) (x y columns : ℕ) (cell : Option Cell) → AreCells g → columns ≡ blocks g.size.w → x / 8 < columns → y / 8 < blocks g.size.h
    → cell ≡ get_or g.cells (y / 8 * columns + x / 8) cell → cell ≡ cell_at g x y
unfolding cell_at
cell_inside g x y columns cell are e across down is =
    let wide : x / 8 < blocks g.size.w = subst (λ (k : ℕ). x / 8 < k) e across in
    let n : ℕ = y / 8 * blocks g.size.w + x / 8 in
    let here : cell ≡ get_or g.cells n cell = is ∙ ap (λ c. get_or g.cells (y / 8 * c + x / 8) cell) e in
    let within : n < length g.cells = rw are.long (place_within (x / 8) (y / 8) (blocks g.size.w) (blocks g.size.h) wide down) in
    let test : (nat_lt x (coded g.size.w) && nat_lt y (coded g.size.h)) ≡ true = and_from _ _ (lt-ltb x (coded g.size.w) (omega arith)) (lt-ltb y (coded g.size.h) (omega arith)) in
    here ∙ (get_or_default g.cells n cell None within ∙ sym (cond-true _ _ _ test))

pub cell_right : (g : Cells) (x y columns : ℕ) → columns ≡ blocks g.size.w → columns ≤ x / 8 → None ≡ cell_at g x y
unfolding cell_at
cell_right g x y columns e h =
    let wide : blocks g.size.w ≤ x / 8 = subst (λ (k : ℕ). k ≤ x / 8) e h in
    let test : (nat_lt x (coded g.size.w) && nat_lt y (coded g.size.h)) ≡ false = grind (arith, nat_tests) in
    sym (cond-false _ _ _ test)

pub cell_below : (g : Cells) (x y rows : ℕ) → rows ≡ blocks g.size.h → rows ≤ y / 8 → None ≡ cell_at g x y
unfolding cell_at
cell_below g x y rows e h =
    let tall : blocks g.size.h ≤ y / 8 = subst (λ (k : ℕ). k ≤ y / 8) e h in
    let test : (nat_lt x (coded g.size.w) && nat_lt y (coded g.size.h)) ≡ false = grind (arith, nat_tests) in
    sym (cond-false _ _ _ test)

-- with a unit's square filled, the cells have the motion of one unit more
pub set_is : (old new : Cells) (x y log2 : ℕ) (vector : Option Vector) (side : ℕ)
    → 3 ≤ log2 → log2 ≤ 5 → x % 2 ^ log2 ≡ 0 → y % 2 ^ log2 ≡ 0 → x + 2 ^ log2 ≤ coded old.size.w → y + 2 ^ log2 ≤ coded old.size.h
    → new.size ≡ old.size → side ≡ 2 ^ (log2 - 3)
    → IsFilled old.cells new.cells (blocks old.size.w) (x / 8) (x / 8 + side) (y / 8) (y / 8 + side) (record { vector = vector })
    → (units : List Moving) → HasMotion old units → (kind : Kind) → HasMotion new (units ++ coded_unit (block_at x y log2) kind vector ∷ [])
unfolding cell_at
set_is old new x y log2 vector side low high column row across down size long filled units has kind = record {
  each = λ px py. ap (λ (s : Size). cond (nat_lt px (coded s.w) && nat_lt py (coded s.h)) (get_or new.cells (py / 8 * blocks s.w + px / 8) None) None) size
      ∙ (go px py (nat_lt px (coded old.size.w) && nat_lt py (coded old.size.h)) refl (has.each px py) ∙ sym (at_end units unit px py));
}
  where
    unit : Moving
    unit = coded_unit (block_at x y log2) kind vector

    go : (px py : ℕ) (t : Bool) → (nat_lt px (coded old.size.w) && nat_lt py (coded old.size.h)) ≡ t
        → cond t (get_or old.cells (py / 8 * blocks old.size.w + px / 8) None) None ≡ kept_of (unit_at units px py)
        → cond t (get_or new.cells (py / 8 * blocks old.size.w + px / 8) None) None ≡ kept_of (option_or (unit_at units px py) (cond (covers px py unit.leaf) (Some unit) None))
    go px py true e h =
        let wide : px < coded old.size.w = ltb-true _ _ (and_parts _ _ e).0 in
        let w : Bool = is_within (x / 8) (x / 8 + 2 ^ (log2 - 3)) (y / 8) (y / 8 + 2 ^ (log2 - 3)) (px / 8) (py / 8) in
        let was : Option Cell = get_or old.cells (py / 8 * blocks old.size.w + px / 8) None in
        let is : get_or new.cells (py / 8 * blocks old.size.w + px / 8) None ≡ cond w (option_or was (Some (record { vector = vector }))) was =
        subst (λ s. get_or new.cells (py / 8 * blocks old.size.w + px / 8) None ≡ cond (is_within (x / 8) (x / 8 + s) (y / 8) (y / 8 + s) (px / 8) (py / 8)) (option_or was (Some (record { vector = vector }))) was) long
        (filled (px / 8) (py / 8) (omega arith)) in
        is ∙ (ap (λ c. cond w (option_or c (Some (record { vector = vector }))) c) h
        ∙ (appended w (unit_at units px py) unit ∙ ap (λ b. kept_of (option_or (unit_at units px py) (cond b (Some unit) None))) (sym (covers_is px py unit.leaf low high column row))))
    go px py false e h = h ∙ other (covers px py unit.leaf) refl
      where
        none_more : (o : Option Moving) → o ≡ option_or o None
        none_more None = refl
        none_more (Some u) = refl

        other : (b : Bool) → covers px py unit.leaf ≡ b → kept_of (unit_at units px py) ≡ kept_of (option_or (unit_at units px py) (cond b (Some unit) None))
        other true k = let i : (nat_lt px (coded old.size.w) && nat_lt py (coded old.size.h)) ≡ true = covered_inside old.size unit.leaf px py across down k in absurd (cc)
        other false k = ap kept_of (none_more (unit_at units px py))

-- cells none of which is filled
empty_is : (P : Option Cell → Type 0) → ((v : Cell) → P (Some v) → ⊥) → (y : Option Cell) → P y → y ≡ None
empty_is P never None h = refl
empty_is P never (Some v) h = absurd (never v h)

pub all_empty : (P : Option Cell → Type 0) (cells : List (Option Cell)) (i : ℕ) → AllByRecursion P cells → ((v : Cell) → P (Some v) → ⊥) → get_or cells i None ≡ None
all_empty P [] i all never = refl
all_empty P (y ∷ cells) zero all never = empty_is P never y all.0
all_empty P (y ∷ cells) (suc i) all never = all_empty P cells i all.1 never
