-- Merge vectors and predictors of units with short vectors are short.
use Rattle.std.proofs.Common.{ℕ, zero, suc, ◌+◌, List, [], ◌∷◌, ◌++◌, Bool, true, false, cond, arith}
use Rattle.std.specs.Prelude.{Option, Some, None, IfSome}
use Rattle.std.specs.List.{find}
use Rattle.h265_model.specs.declared.block.CodingBlock.{CodingBlock}
use Rattle.h265_model.specs.declared.leaf.Kind.{Kind}
use Rattle.h265_model.specs.declared.moves.Vector.{Vector}
use Rattle.h265_model.specs.Plain.{covers, side}
use Rattle.h265_model.specs.Motion.{Moving, no_motion, vector_in, vector_before, first_vector, or_none, is_vector, two_of, predictors, merge, a0, a1, b0, b1, b2}
use Rattle.h265_model.proofs.ListParts.{all_append}
use Rattle.motion_grid.specs.Cells.{HasMotion, coded_unit}
use Rattle.motion_grid.specs.Cells as motions
use Rattle.motion_code.specs.Moves.{IsShort, AreShort, HasShort}

abbrev Short : Option Vector → Type 0
Short o = IfSome o IsShort

no_motion_short : IsShort no_motion
no_motion_short = record { x = omega arith; y = omega arith }

find_short : (test : Moving → Bool) (units : List Moving) → AreShort units → Short (vector_in (find test units))
find_short test [] h = tt
find_short test (u ∷ units) h = go (find_short test units h.1) (test u)
  where
    go : Short (vector_in (find test units)) → (b : Bool) → Short (vector_in (cond b (Some u) (find test units)))
    go later true = h.0
    go later false = later

before_short : (units : List Moving) (x y : ℕ) → AreShort units → Short (vector_before units x y)
unfolding vector_before
before_short units zero y h = tt
before_short units (suc x) zero h = tt
before_short units (suc x) (suc y) h = find_short (λ (u : Moving). covers x y u.leaf) units h

abbrev AllShort : List (Option Vector) → Type 0
AllShort [] = Unit {0}
AllShort (o ∷ os) = Short o × AllShort os

first_short : (os : List (Option Vector)) → AllShort os → Short (first_vector os)
first_short [] h = tt
first_short (None ∷ os) h = first_short os h.1
first_short (Some v ∷ os) h = h.0

or_short : (o : Option Vector) → Short o → IsShort (or_none o)
or_short None h = no_motion_short
or_short (Some v) h = h

two_short : (a b : Option Vector) → Short a → Short b → IsShort (two_of a b).0 × IsShort (two_of a b).1
two_short None b ha hb = (or_short b hb, no_motion_short)
two_short (Some a) None ha hb = (ha, no_motion_short)
two_short (Some a) (Some b) ha hb = go (is_vector a b)
  where
    Both : Vector × Vector → Type 0
    Both p = IsShort p.0 × IsShort p.1

    go : (t : Bool) → Both (cond t (a, no_motion) (a, b))
    go true = (ha, no_motion_short)
    go false = (ha, hb)

pub predictors_short : (units : List Moving) (block : CodingBlock) → AreShort units → IsShort (predictors units block).0 × IsShort (predictors units block).1
unfolding predictors
predictors_short units block h =
    let n : ℕ = side block in
    two_short (first_vector (a0 units block ∷ a1 units block ∷ [])) (first_vector (b0 units block ∷ b1 units block ∷ b2 units block ∷ []))
    (first_short (a0 units block ∷ a1 units block ∷ []) (before_short units block.x (block.y + n + 1) h, (before_short units block.x (block.y + n) h, tt)))
    (first_short (b0 units block ∷ b1 units block ∷ b2 units block ∷ [])
    (before_short units (block.x + n + 1) block.y h, (before_short units (block.x + n) block.y h, (before_short units block.x block.y h, tt))))

pub merge_short : (units : List Moving) (block : CodingBlock) → AreShort units → IsShort (merge units block)
unfolding merge
merge_short units block h =
    let n : ℕ = side block in
    let x : ℕ = block.x in
    let y : ℕ = block.y in
    or_short (first_vector (a1 units block ∷ b1 units block ∷ b0 units block ∷ a0 units block ∷ b2 units block ∷ []))
    (first_short (a1 units block ∷ b1 units block ∷ b0 units block ∷ a0 units block ∷ b2 units block ∷ [])
    (before_short units x (y + n) h, (before_short units (x + n) y h, (before_short units (x + n + 1) y h, (before_short units x (y + n + 1) h, (before_short units x y h, tt))))))

-- the grid, once a unit with a short vector is set
pub short_more : (before after : motions.Cells) (block : CodingBlock) (kind : Kind) (v : Option Vector)
    → ((units : List Moving) → HasMotion before units → (k : Kind) → HasMotion after (units ++ coded_unit block k v ∷ []))
    → IfSome v IsShort → HasShort before → HasShort after
short_more before after block kind v set hv h = record {
  units = h.units ++ coded_unit block kind v ∷ [];
  has = set h.units h.has kind;
  short = all_append (λ (unit : Moving). IfSome unit.vector IsShort) h.units (coded_unit block kind v ∷ []) h.short (hv, tt);
}
