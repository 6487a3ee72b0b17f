-- What is kept of the motion of a picture's units, by blocks of 8x8.
use Rattle.std.specs.Prelude.{◌≡◌, ◌<◌, ℕ, zero, suc, ◌+◌, ◌*◌, ◌/◌, Bool, ◌&&◌, List, length, nat_le, nat_lt, slice_index_or, Option, Some, None, IsTrue, if◌then◌else◌}
use Rattle.std.specs.List.{find}
use Rattle.std.specs.Option.{option_or}
use Rattle.h265_model.specs.declared.moves.Vector.{Vector}
use Rattle.h265_model.specs.declared.leaf.Kind.{Kind}
use Rattle.h265_model.specs.Plain.{block_at, Size, coded, leaf_with, covers}
use Rattle.h265_model.specs.Settings.{is_size}
use Rattle.h265_model.specs.Motion.{Moving}
use Rattle.motion_grid.specs.declared.cells.Cell.{Cell}
use Rattle.h265_model.specs.declared.block.CodingBlock.{CodingBlock}

-- the size of a picture, and what is kept of each of its blocks of 8x8, in rows from the top
pub record Cells : Type 0 where
  pub size : Size
  pub cells : List (Option Cell)

-- how many blocks of 8 cover a side
abbrev pub blocks : ℕ → ℕ
blocks n = (n + 7) / 8

-- a size within the limits, and cells that cover it
pub record AreCells (g : Cells) : Type 0 where
  pub sized : IsTrue (is_size g.size)
  pub long : length g.cells ≡ blocks g.size.w * blocks g.size.h

-- what is kept of a unit
abbrev pub kept_of : Option Moving → Option Cell
kept_of None = None
kept_of (Some unit) = Some (record { vector = unit.vector })

-- what is kept of the block with this place: nothing outside the coded picture
unfoldable pub cell_at : Cells → ℕ → ℕ → Option Cell
cell_at g x y = if nat_lt x (coded g.size.w) && nat_lt y (coded g.size.h) then slice_index_or g.cells (y / 8 * blocks g.size.w + x / 8) None else None

-- the first of these units that covers a place
abbrev pub unit_at : List Moving → ℕ → ℕ → Option Moving
unit_at units x y = find (λ (unit : Moving). covers x y unit.leaf) units

-- these units were set, in this order: each place has what is kept of the unit there
pub record HasMotion (g : Cells) (units : List Moving) : Type 0 where
  pub each : (x y : ℕ) → cell_at g x y ≡ kept_of (unit_at units x y)

-- a unit of any kind, as it is coded
abbrev pub coded_unit : CodingBlock → Kind → Option Vector → Moving
coded_unit block kind vector = record { leaf = leaf_with block kind; vector = vector }

-- ---- how cells are filled

-- the column x of blocks and the row y of blocks cross in the square
abbrev pub is_within : ℕ → ℕ → ℕ → ℕ → ℕ → ℕ → Bool
is_within left right top bottom x y = nat_le left x && nat_lt x right && nat_le top y && nat_lt y bottom

-- the empty cells of a square were filled, and all else is as before
abbrev pub IsFilled : List (Option Cell) → List (Option Cell) → ℕ → ℕ → ℕ → ℕ → ℕ → Cell → Type 0
IsFilled before after columns left right top bottom cell =
    (x y : ℕ) → x < columns → slice_index_or after (y * columns + x) None
    ≡ (if is_within left right top bottom x y then option_or (slice_index_or before (y * columns + x) None) (Some cell) else slice_index_or before (y * columns + x) None)

-- ---- neighbours

-- the vector of what is kept
abbrev pub vector_kept : Option Cell → Option Vector
vector_kept None = None
vector_kept (Some cell) = cell.vector

-- the vector before a place in both directions
abbrev pub kept_before : Cells → ℕ → ℕ → Option Vector
kept_before g zero y = None
kept_before g (suc x) zero = None
kept_before g (suc x) (suc y) = vector_kept (cell_at g x y)
