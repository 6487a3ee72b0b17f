-- Rows of units are those of the slice's definitions.
use Rattle.std.specs.Prelude.{◌≡◌, ℕ, List}
use Rattle.h265_model.specs.declared.leaf.Leaf.{Leaf}
use Rattle.h265_model.specs.declared.leaf.SliceKind.{SliceKind}
use Rattle.h265_model.specs.declared.moves.MoveLeaf.{MoveLeaf}
use Rattle.h265_model.specs.Plain.{Size}
use Rattle.h265_model.specs.Slice.{row_code, segment_code}
use Rattle.h265_model.specs.Tree.{Units, UnitItems, Source, leaf_units, moving}
use Rattle.row_sequence.specs.declared.writer.Ending.TheVariants.{Slice, Segment}
use Rattle.row_sequence.specs.Sequence.{items_by, code_of}

-- the bytes of a row of these units, in a slice and as a segment
pub record AreCodes {Unit Kept : Type 0} (kind : SliceKind) (units : Units Unit Kept) (size : Size) (lists : List (List Unit)) (row : ℕ) : Type 0 where
  pub in_slice : code_of Slice kind size (items_by units size lists) row ≡ row_code kind units size lists row
  pub in_segment : code_of Segment kind size (items_by units size lists) row ≡ segment_code kind units size lists row

-- where no blocks move
abbrev pub EachRowOfLeaves : Type 0
EachRowOfLeaves = (kind : SliceKind) (source : Source) (size : Size) (leaves : List (List Leaf)) (row : ℕ) → AreCodes kind (leaf_units kind source) size leaves row

-- where blocks may move
abbrev pub EachRowOfMoves : Type 0
EachRowOfMoves = (kind : SliceKind) (items : UnitItems) (size : Size) (units : List (List MoveLeaf)) (row : ℕ) → AreCodes kind (moving items) size units row
