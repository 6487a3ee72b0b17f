-- A block's levels by sub-blocks, each as 16 levels in rows, and what is written of each.
use Rattle.std.specs.Prelude.{◌≡◌, ◌≤◌, ◌<◌, ℕ, zero, suc, ◌+◌, ◌*◌, ◌-◌, ◌^◌, Bool, true, false, not, ◌||◌, ◌&&◌, List, [], ◌∷◌, ◌++◌, get_or, ◌==◌, nat_le, nat_lt, if◌then◌else◌, ℤ, pos}
use Rattle.h265_model.specs.declared.Item.{Item}
use Rattle.h265_model.specs.Plain.{context_bin, place_values}
use Rattle.h265_model.specs.Binarise.{bypass_bins, remaining}
use Rattle.h265_model.specs.Bits.{digit}
use Rattle.h265_model.specs.Residual as residual
use Rattle.h265_model.specs.Residual.{place_at, scan, sub_scan, level_at, Sub, cbf, sig_items, value_items, set_of, nonzero, flag_context, is_implied, is_zero, sig_at, rice_after}
use Rattle.residual_code.specs.declared.shape.Shape.{Shape}
use Rattle.residual_code.specs.declared.shape.SubBlock.{SubBlock}

-- a shape as the definitions have it
abbrev pub shape_of : Shape → residual.Shape
shape_of s = residual.shape s.component s.log2 s.scan

-- a component, a side of 8, 16 or 32, and a scan
pub record IsShape (s : Shape) : Type 0 where
  pub component : s.component < 3
  pub low : 3 ≤ s.log2
  pub high : s.log2 ≤ 5
  pub scan : s.scan < 3

-- how many sub-blocks there are
abbrev pub sub_count : Shape → ℕ
sub_count s = 4 ^ (s.log2 - 2)

-- what is known of a sub-block as the definitions have it
abbrev pub sub_of : SubBlock → Sub
sub_of b = record { number = b.number; right = b.right; below = b.below }

-- the sub-block with its number stands there
pub record IsSubBlock (s : Shape) (b : SubBlock) : Type 0 where
  pub number : b.number < sub_count s
  pub x : b.x ≡ (place_at (sub_scan (shape_of s)) b.number).0
  pub y : b.y ≡ (place_at (sub_scan (shape_of s)) b.number).1

-- the values of f at the numbers below n, the greatest first
unfoldable pub down : {A : Type 0} → (ℕ → A) → ℕ → List A
down f zero = []
down f (suc k) = f k ∷ down f k

-- the level of a place in 16 levels in rows
abbrev pub tile_at : List ℤ → ℕ × ℕ → ℤ
tile_at tile p = get_or tile (4 * p.1 + p.0) (pos 0)

-- the first k levels of a sub-block in the order of a scan, the last first
abbrev pub tile_levels : ℕ → List ℤ → ℕ → List ℤ
tile_levels kind tile k = down (λ i. tile_at tile (place_at (scan kind 2) i)) k

-- the 16 levels of a sub-block, in rows
abbrev pub sub_tile : residual.Shape → List ℤ → ℕ × ℕ → List ℤ
sub_tile s block sub = place_values 4 4 (λ x y. level_at s block sub (x, y))

-- the levels of the sub-block with this number, the last of its scan first
abbrev pub sub_levels : residual.Shape → List ℤ → ℕ → List ℤ
sub_levels s block n = tile_levels s.scan (sub_tile s block (place_at (sub_scan s) n)) 16

-- whether a list has a member
abbrev pub has_members : List ℤ → Bool
has_members [] = false
has_members (v ∷ values) = true

-- whether a sub-block before the last one is coded
abbrev pub coded_at : ℕ → List ℤ → Bool
coded_at number levels = not (not (number == 0)) || cbf levels

-- what is written of a sub-block before the last one: its flag, and its levels
abbrev pub flag_part : residual.Shape → Sub → Bool → List Item
flag_part s sub coded = if not (sub.number == 0) then context_bin coded (flag_context s sub) ∷ [] else []

abbrev pub level_part : residual.Shape → Sub → Bool → Bool → List ℤ → List Item
level_part s sub coded ended levels =
    if coded then sig_items s sub (not (sub.number == 0)) false levels ++ value_items s.component (set_of s sub.number ended) (nonzero levels) else []

abbrev pub sub_part : residual.Shape → Sub → Bool → List ℤ → List Item
sub_part s sub ended levels = flag_part s sub (coded_at sub.number levels) ++ level_part s sub (coded_at sub.number levels) ended levels

-- the least size whose rest is coded, by how many levels with greater1 flags are left and whether an earlier size was above 1
abbrev pub least_of : ℕ → Bool → ℕ
least_of zero seen = 1
least_of (suc left) seen = if seen then 2 else 3

-- the set of contexts of a sub-block's greater1 flags
abbrev pub set_number : ℕ → ℕ → Bool → ℕ
set_number component number ended = (if component == 0 && not (number == 0) then 2 else 0) + digit ended

-- what is written of the flag of the level with this number in its sub-block
abbrev pub sig_part : residual.Shape → Sub → Bool → Bool → ℕ → ℤ → List Item
sig_part s sub inner found number level =
    if is_implied inner found number then [] else context_bin (not (is_zero level)) (sig_at s sub number) ∷ []

-- what is written of sizes past what their flags tell: with the Rice parameter, whether an earlier size was above 1, and how many levels
-- with greater1 flags are left
abbrev pub rests_from : ℕ → Bool → ℕ → List ℕ → List Item
rests_from rice seen left [] = []
rests_from rice seen left (size ∷ sizes) =
    (if nat_le (least_of left seen) size then bypass_bins (remaining rice (size - least_of left seen)) else [])
    ++ rests_from (if nat_le (least_of left seen) size then rice_after rice size else rice) (seen || nat_lt 1 size) (left - 1) sizes
