-- What is kept of a picture's leaves, by blocks of 8x8.
use Rattle.std.specs.Prelude.{◌≡◌, ◌<◌, ◌≤◌, ℕ, ◌+◌, ◌*◌, ◌/◌, ◌%◌, ◌^◌, Bool, false, ◌&&◌, List, length, nat_le, nat_lt, slice_index_or, Option, Some, None, IsTrue, if◌then◌else◌}
use Rattle.std.specs.Option.{option_or}
use Rattle.h265_model.specs.declared.leaf.Leaf.{Leaf}
use Rattle.h265_model.specs.Plain.{Size, coded}
use Rattle.h265_model.specs.Settings.{is_size}
use Rattle.h265_model.specs.Tree.{leaf_at, is_skipped, mode_of, IsMode}
use Rattle.pu_code.specs.declared.cell.Cell.{Cell}

-- the size of a picture, and what is kept of each of its blocks of 8x8, in rows from the top
pub record Cells : Type 0 where
  pub size : Size
  pub cells : List (Option Cell)

-- how many blocks of 8 cover a side
abbrev pub blocks : ℕ → ℕ
blocks n = (n + 7) / 8

-- the mode of a cell as a candidate
abbrev pub mode_kept : Option Cell → ℕ
mode_kept None = 1
mode_kept (Some cell) = cell.mode

-- a size within the limits, and cells that cover it, with modes below 35
pub record AreCells (g : Cells) : Type 0 where
  pub sized : IsTrue (is_size g.size)
  pub long : length g.cells ≡ blocks g.size.w * blocks g.size.h
  pub modes : (x y : ℕ) → x < blocks g.size.w → mode_kept (slice_index_or g.cells (y * blocks g.size.w + x) None) < 35

-- what is kept of a leaf, and of the leaf at a place
abbrev pub cell_of : Leaf → Cell
cell_of leaf = record { log2 = leaf.block.log2; skipped = is_skipped leaf.kind; mode = mode_of leaf.kind }

abbrev pub kept_of : Option Leaf → Option Cell
kept_of None = None
kept_of (Some leaf) = Some (cell_of leaf)

-- what is kept of the block with this place
abbrev pub cell_at : Cells → ℕ → ℕ → Option Cell
cell_at g x y = slice_index_or g.cells (y / 8 * blocks g.size.w + x / 8) None

-- these leaves were set, in this order: at each place of the coded picture stands what is kept of the leaf there
pub record StandsFor (g : Cells) (leaves : List Leaf) : Type 0 where
  pub each : (x y : ℕ) → x < coded g.size.w → y < coded g.size.h → cell_at g x y ≡ kept_of (leaf_at leaves x y)

-- a coding unit of this picture
pub record IsUnit (size : Size) (leaf : Leaf) : Type 0 where
  pub low : 3 ≤ leaf.block.log2
  pub high : leaf.block.log2 ≤ 5
  pub column : leaf.block.x % 2 ^ leaf.block.log2 ≡ 0
  pub row : leaf.block.y % 2 ^ leaf.block.log2 ≡ 0
  pub across : leaf.block.x + 2 ^ leaf.block.log2 ≤ coded size.w
  pub down : leaf.block.y + 2 ^ leaf.block.log2 ≤ coded size.h
  pub mode : IsMode leaf.kind

-- the column x of blocks and the row y of blocks cross in the square
abbrev pub is_within : ℕ → ℕ → ℕ → ℕ → ℕ → ℕ → Bool
is_within left right top bottom x y = nat_le left x && nat_lt x right && nat_le top y && nat_lt y bottom

-- the empty cells of a square were filled, and all else is as before
abbrev pub IsFilled : List (Option Cell) → List (Option Cell) → ℕ → ℕ → ℕ → ℕ → ℕ → Cell → Type 0
IsFilled before after columns left right top bottom cell =
    (x y : ℕ) → x < columns → slice_index_or after (y * columns + x) None
    ≡ (if is_within left right top bottom x y then option_or (slice_index_or before (y * columns + x) None) (Some cell) else slice_index_or before (y * columns + x) None)

-- what is kept of a neighbour counts
abbrev pub is_smaller : ℕ → Option Cell → Bool
is_smaller log2 None = false
is_smaller log2 (Some cell) = nat_lt cell.log2 log2

abbrev pub is_copy : Option Cell → Bool
is_copy None = false
is_copy (Some cell) = cell.skipped
