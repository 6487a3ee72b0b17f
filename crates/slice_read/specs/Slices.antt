-- Rows and slices, read from their bytes and taken.
use Rattle.std.specs.Prelude.{◌≡◌, ◌<◌, ◌≤◌, ℕ, ◌+◌, ◌*◌, List, [], ◌∷◌, ◌++◌, map, Option, Some, None}
use Rattle.h265_model.specs.declared.leaf.SliceKind.{SliceKind}
use Rattle.h265_model.specs.Plain.{Size, ctus}
use Rattle.h265_model.specs.Bits.{◌>>=◌}
use Rattle.h265_model.specs.Contexts.{row_start}
use Rattle.h265_model.specs.Motion.{Moving}
use Rattle.h265_model.specs.Slice.{cut_after, row_of_bytes, rows_read, slice_row_read, handed_on}
use Rattle.h265_model.specs.Tree.{ReadUnit, ReadCtu, units_of, units_after, moving_of}
use Rattle.leaf_sink.specs.Units.{HasAvailable}
use Rattle.pu_code.specs.Cells as modes
use Rattle.motion_grid.specs.Cells as motions
use Rattle.unit_read.specs.Units.{AreKept}

-- these contexts were handed on to a row, if the row starts from such: below the first row, in a picture of two coding tree units across or more (9.3.1)
abbrev pub IsHanded : Size → ℕ → Option (List ℕ) → List ℕ → Type 0
IsHanded size row given above = 0 < row → 2 ≤ ctus size.w → given ≡ Some above

-- a row that was read, of whose units this holds, and what it hands on to the next one, or nothing just where nothing is read
abbrev pub ReadsRowOf : Option (Option (List ℕ)) → Option (List ReadCtu) → Size → ℕ → (List ReadUnit → Type 0) → Type 0
ReadsRowOf None read size row Holds = read ≡ None
ReadsRowOf (Some given) read size row Holds = (ctus : List ReadCtu) × (read ≡ Some ctus) × IsHanded size (row + 1) given (handed_on ctus) × Holds (units_of ctus)

-- the sink has taken the units of a row, if all before the row was taken, and then so is all before the next one; the grids stand for them after those before
pub record IsRowTaken (stood stands : List ReadUnit → Type 0) (size : Size) (row : ℕ) (cells : modes.Cells) (vectors : motions.Cells) (before : List Moving) (read : List ReadUnit) : Type 0 where
  pub taken : (units : List ReadUnit) → stood units → HasAvailable size units 0 (row * 32) → stands (units ++ read) × HasAvailable size (units ++ read) 0 ((row + 1) * 32)
  pub kept : AreKept cells vectors (units_after before read)

-- the parsing of the rows from this number on, after these units and what the row above handed on. Each is cut by its offset before it is read
unfoldable pub rows_cut : SliceKind → Size → ℕ → List Moving → List ℕ → List ℕ → List ℕ → Option (List ReadUnit)
rows_cut kind size row before above [] bytes = rows_read kind size row before above (bytes ∷ [])
rows_cut kind size row before above (offset ∷ offsets) bytes = do
  cut ← cut_after 255 255 offset bytes
  read ← row_of_bytes (slice_row_read kind size row before) (row_start kind (ctus size.w) row above) cut.0
  others ← rows_cut kind size (row + 1) (units_after before (units_of read)) (handed_on read) offsets cut.1
  Some (units_of read ++ others)

-- units that were read, of which this holds, or nothing just where nothing is read
abbrev pub ReadsSlice : Option (Unit {0}) → Option (List ReadUnit) → (List ReadUnit → Type 0) → Type 0
ReadsSlice None read Holds = read ≡ None
ReadsSlice (Some _) read Holds = (units : List ReadUnit) × (read ≡ Some units) × Holds units

-- the sink has taken the units of a picture, if it had taken none, and the grids stand for them
pub record IsSliceTaken (stood stands : List ReadUnit → Type 0) (cells : modes.Cells) (vectors : motions.Cells) (units : List ReadUnit) : Type 0 where
  pub taken : stood [] → stands units
  pub kept : AreKept cells vectors (map moving_of units)
