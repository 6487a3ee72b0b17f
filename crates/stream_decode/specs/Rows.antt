-- A picture that is read in segments, row by row.
use Rattle.std.specs.Prelude.{◌≡◌, ◌<◌, ℕ, zero, suc, ◌+◌, ◌*◌, Bool, true, false, List, [], ◌++◌, drop, map, Option, Some, None}
use Rattle.h265_model.specs.Plain.{Size, Picture, ctus}
use Rattle.h265_model.specs.Bits.{◌>>=◌ as and_then}
use Rattle.h265_model.specs.Slice.{segment_read, handed_on}
use Rattle.h265_model.specs.Stream.{slice_kind}
use Rattle.h265_model.specs.Tree.{ReadUnit, ReadCtu, moving_of, units_of}
use Rattle.h265_model.specs.Rebuild.{rebuild}
use Rattle.h265_model.specs.Decode.{Decoded, Begun, Stand, is_next, referred, after_segment, segment_step}
use Rattle.read_laws.specs.Laws.{IsReadFirst}
use Rattle.leaf_sink.specs.Units.{HasAvailable}
use Rattle.pu_code.specs.Cells as modes
use Rattle.motion_grid.specs.Cells as motions
use Rattle.unit_read.specs.Units.{AreKept}
use Rattle.slice_read.specs.Slices.{IsHanded}
use Rattle.canvas.specs.Drawing.{Pictures, Draws}
use Rattle.stream_decode.specs.Steps.{Units, between, rest, after_picture}
use Rattle.stream_decode.specs.declared.segments as code

-- what was read of a picture before a row, after these units and what the row above handed on
abbrev pub begun_at : Bool → ℕ → ℕ → List ReadUnit → List ℕ → Begun
begun_at idr poc row units above = record { idr = idr; poc = poc; row = row; units = units; handed = above }

-- what is known before the segment of a row
abbrev pub stand_at : Option Decoded → Bool → ℕ → ℕ → List ReadUnit → List ℕ → Stand
stand_at last idr poc zero units above = between last
stand_at last idr poc (suc row) units above = record { last = last; begun = Some (begun_at idr poc (suc row) units above); ended = false }

-- what is known after it, by what is read of its data
abbrev pub after_read : Size → Option Decoded → Bool → ℕ → ℕ → List ReadUnit → List ReadCtu → Option Stand
after_read size last idr poc row units read = after_segment size (between last) (begun_at idr poc (row + 1) (units ++ units_of read) (handed_on read))

abbrev pub row_step : Size → Option Decoded → Bool → ℕ → ℕ → List ReadUnit → List ℕ → List ℕ → Option Stand
row_step size last idr poc row units above bytes =
    and_then (segment_read (slice_kind idr) size row (map moving_of units) above bytes) (after_read size last idr poc row units)

-- nothing is read above the first row
abbrev pub IsFirst : ℕ → List ReadUnit → List ℕ → Type 0
IsFirst row units above = row ≡ 0 → (units ≡ []) × (above ≡ [])

-- the header of a row's segment was read, which is the next one, and data begin after it; or it isn't the next one
abbrev pub OpensRow : Option (ℕ × ℕ) → Size → Bool → Option Decoded → ℕ → ℕ → List ℕ → Type 0
OpensRow None size idr last row poc rbsp = (units : List ReadUnit) (above : List ℕ) → segment_step size idr (stand_at last idr poc row units above) rbsp ≡ None
OpensRow (Some (now, start)) size idr last row poc rbsp =
    ((units : List ReadUnit) (above : List ℕ) → IsFirst row units above
    → segment_step size idr (stand_at last idr poc row units above) rbsp ≡ row_step size last idr now row units above (drop start rbsp))
    × ((0 < row → is_next idr last poc ≡ true) → is_next idr last now ≡ true)

-- these units were read of the rows before this one, and drawn
pub record AreRead (size : Size) (idr : Bool) (row : ℕ) (given : Option (List ℕ)) (cells : modes.Cells) (vectors : motions.Cells) (pictures : Pictures) (units : List ReadUnit) (above : List ℕ) : Type 0 where
  pub first : IsFirst row units above
  pub lawful : IsReadFirst (slice_kind idr) size (row * ctus size.w) units
  pub handed : IsHanded size row given above
  pub kept : AreKept cells vectors (map moving_of units)
  pub drawn : Draws pictures units
  pub available : HasAvailable size units 0 (row * 32)

-- the segment of a row was read and drawn, and is the next one, or it isn't
abbrev pub ReadsRow : Option code.Begun.Begun → Size → Bool → Option Decoded → ℕ → code.Begun.Begun → modes.Cells → motions.Cells → Pictures → modes.Cells → motions.Cells → Pictures → List ℕ → Type 0
ReadsRow None size idr last row begun cells vectors old cells_now vectors_now new rbsp =
    (units : List ReadUnit) (above : List ℕ) → AreRead size idr row begun.handed cells vectors old units above → segment_step size idr (stand_at last idr begun.poc row units above) rbsp ≡ None
ReadsRow (Some now) size idr last row begun cells vectors old cells_now vectors_now new rbsp =
    ((units : List ReadUnit) (above : List ℕ) → AreRead size idr row begun.handed cells vectors old units above
    → (read : List ReadCtu)
    × (segment_step size idr (stand_at last idr begun.poc row units above) rbsp ≡ after_read size last idr now.poc row units read)
    × AreRead size idr (row + 1) now.handed cells_now vectors_now new (units ++ units_of read) (handed_on read))
    × ((0 < row → is_next idr last begun.poc ≡ true) → is_next idr last now.poc ≡ true)

-- what the NAL units from here on give, by what those from there on do, before a row
pub record IsRest (size : Size) (last : Option Decoded) (idr : Bool) (poc row : ℕ) (units : List ReadUnit) (above : List ℕ) (from to : Units) : Type 0 where
  pub more : row < ctus size.h → rest size true (between last) from ≡ rest size true (stand_at last idr poc row units above) to
  pub whole : row ≡ ctus size.h → (before : Picture) → referred idr last size ≡ Some before
      → rest size true (between last) from ≡ after_picture size true (record { poc = poc; planes = rebuild size before units }) to
