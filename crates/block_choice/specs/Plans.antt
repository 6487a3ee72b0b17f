-- What is known of a coding tree unit while its coding units are chosen.
use Rattle.std.specs.Prelude.{◌≡◌, ◌<◌, ◌≤◌, ◌↔◌, ℕ, ◌+◌, ◌*◌, ◌%◌, ◌/◌, ◌^◌, Bool, true, false, List, ◌++◌, map, slice_index_or, Option, Some, None, IsTrue}
use Rattle.h265_model.specs.declared.block.CodingBlock.{CodingBlock}
use Rattle.h265_model.specs.declared.leaf.Kind.TheVariants.{Intra}
use Rattle.h265_model.specs.declared.leaf.Leaf.{Leaf}
use Rattle.h265_model.specs.declared.rect.Rect.{Rect}
use Rattle.h265_model.specs.Plain.{Size, Picture, coded, side, leaf_with, ctu_x, ctu_y}
use Rattle.h265_model.specs.Choice.{Plan, one_leaf, intra_cost}
use Rattle.px_plane.specs.Planes.{picture_of}
use Rattle.px_plane.specs.Blocks.{IsSameBlock}
use Rattle.leaf_cost.specs.declared.best.Best.{Best}
use Rattle.block_choice.specs.declared.leaf.Task.{Task}

-- the picture before, where there is one
abbrev pub before : Bool → Picture → Option Picture
before true p = Some p
before false p = None

abbrev pub before_of : Task → Option Picture
before_of t = before t.has_last (picture_of t.last.now)

-- two pictures are the same in a coding tree unit
pub record IsSameTree (p q : Picture) (size : Size) (ctu : ℕ) : Type 0 where
  pub each : (c x y : ℕ) → c < 3 → x < 32 → y < 32 → ctu_x size ctu + x < coded size.w → ctu_y size ctu + y < coded size.h
      → p c (ctu_x size ctu + x) (ctu_y size ctu + y) ≡ q c (ctu_x size ctu + x) (ctu_y size ctu + y)

-- a square of 8
abbrev pub square_at : ℕ → ℕ → Rect
square_at x y = record { x = x; y = y; w = 8; h = 8 }

-- for each square of 8 in the coded picture, in rows of four, whether it may be copied
pub record TellsCopies (copies : List Bool) (has : Bool) (prev now : Picture) (size : Size) (x y : ℕ) : Type 0 where
  pub each : (i j : ℕ) → i < 4 → j < 4 → x + i * 8 < coded size.w → y + j * 8 < coded size.h
      → IsTrue (slice_index_or copies (4 * j + i) false) ↔ ((has ≡ true) × IsSameBlock prev now (square_at (x + i * 8) (y + j * 8)))

-- the same of the first n squares, where there is a picture before
pub record TellsFirst (copies : List Bool) (prev now : Picture) (size : Size) (x y n : ℕ) : Type 0 where
  pub each : (k : ℕ) → k < n → x + k % 4 * 8 < coded size.w → y + k / 4 * 8 < coded size.h
      → IsTrue (slice_index_or copies k false) ↔ IsSameBlock prev now (square_at (x + k % 4 * 8) (y + k / 4 * 8))

-- the first rows of squares of a block may all be copied
pub record AreAllCopied (copies : List Bool) (i j side rows : ℕ) : Type 0 where
  pub each : (u v : ℕ) → u < side → v < rows → slice_index_or copies (4 * (j + v) + (i + u)) false ≡ true

pub record IsTask (t : Task) : Type 0 where
  pub effort : t.effort ≤ 2
  pub x : t.x < 4096
  pub y : t.y < 4096
  pub whole_x : t.x % 32 ≡ 0
  pub whole_y : t.y % 32 ≡ 0
  pub copies : TellsCopies t.copies t.has_last (picture_of t.last.now) (picture_of t.current.now) t.current.now.size t.x t.y

-- a block in the coding tree unit
pub record IsPlace (t : Task) (block : CodingBlock) : Type 0 where
  pub left : t.x ≤ block.x
  pub right : block.x + side block ≤ t.x + 32
  pub top : t.y ≤ block.y
  pub bottom : block.y + side block ≤ t.y + 32
  pub whole_x : block.x % side block ≡ 0
  pub whole_y : block.y % side block ≡ 0

abbrev pub intra_plans : Size → Picture → CodingBlock → List ℕ → List Plan
intra_plans size now block modes = map (λ mode. one_leaf (intra_cost size now (leaf_with block (Intra mode))) (leaf_with block (Intra mode))) modes

-- a plan of one coding unit, where it costs less than the limit
abbrev pub IsLeafPlan : Option Best → ℕ → CodingBlock → Plan → Type 0
IsLeafPlan None limit block plan = limit ≤ plan.cost
IsLeafPlan (Some b) limit block plan = (b.cost < limit) × (plan ≡ one_leaf b.cost (leaf_with block b.kind))

-- the same of a block that may go beyond the coded picture, where there is none
abbrev pub IsWholeLeaf : Option Best → ℕ → CodingBlock → Bool → Plan → Type 0
IsWholeLeaf None limit block whole plan = whole ≡ true → limit ≤ plan.cost
IsWholeLeaf (Some b) limit block whole plan = (whole ≡ true) × (b.cost < limit) × (plan ≡ one_leaf b.cost (leaf_with block b.kind))

-- a plan's coding units are added where they cost less than the limit
abbrev pub IsPlanned : Option ℕ → ℕ → Plan → List Leaf → List Leaf → Type 0
IsPlanned None limit plan old new = (limit ≤ plan.cost) × (new ≡ old)
IsPlanned (Some cost) limit plan old new = (cost ≡ plan.cost) × (cost < limit) × (new ≡ old ++ plan.leaves)
