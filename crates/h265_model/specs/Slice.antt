-- Slice data: the bytes of rows and their contexts, and reading them, in one segment with entry points or in one for
-- each row (7.3.8.1, 7.4.7.1, 9.3.1, 9.3.2).
use Rattle.std.specs.Prelude.{ℕ, zero, suc, ◌+◌, ◌&&◌, List, [], ◌∷◌, ◌++◌, map, Option, Some, None, ◌==◌, nat_le, if◌then◌else◌, ◌<◌, ◌≡◌, ◌*◌, length, true}
use Rattle.h265_model.specs.declared.leaf.SliceKind.{SliceKind}
use Rattle.h265_model.specs.declared.leaf.Leaf.{Leaf}
use Rattle.h265_model.specs.Plain.{Size, ctus}
use Rattle.h265_model.specs.Bits.{◌>>=◌, bits}
use Rattle.h265_model.specs.Engine.{start, is_done, Engine, Reader, give}
use Rattle.h265_model.specs.Contexts.{row_start}
use Rattle.h265_model.specs.Code.{code, contexts_after}
use Rattle.h265_model.specs.Tree.{Units, Source, ctus_items, items_of_row, items_of_segment, IsSource, AreLawfulTrees, expect, is_last, ReadUnit, ReadCtu, units_of, units_after, ctus_read, ends_row}
use Rattle.h265_model.specs.declared.Place.TheVariants.{Terminate}
use Rattle.h265_model.specs.Engine as Engine
use Rattle.h265_model.specs.Motion.{Moving}

-- ---- writing, with the units of each coding tree unit of the picture

-- the contexts that a row starts from: those after the second coding tree unit of the row above, where there are
-- such (9.3.1). The flags between coding tree units have no contexts, so these are the same in slices and segments
unfoldable pub contexts_at : {Unit Kept : Type 0} → SliceKind → Units Unit Kept → Size → List (List Unit) → ℕ → List ℕ
contexts_at kind units size lists zero = row_start kind (ctus size.w) 0 []
contexts_at kind units size lists (suc row) =
    row_start kind (ctus size.w) (suc row)
    (contexts_after (ctus_items units size (is_last size) lists row 2) (contexts_at kind units size lists row))

-- the bytes of a row, as a substream (7.3.8.1, 9.3.5.1)
abbrev pub row_code : {Unit Kept : Type 0} → SliceKind → Units Unit Kept → Size → List (List Unit) → ℕ → List ℕ
row_code kind units size lists row = code (items_of_row units size lists row) (contexts_at kind units size lists row)

-- the bytes of the data of a row that is a slice segment (7.3.8.1, 9.3.5.1)
abbrev pub segment_code : {Unit Kept : Type 0} → SliceKind → Units Unit Kept → Size → List (List Unit) → ℕ → List ℕ
segment_code kind units size lists row = code (items_of_segment units size lists row) (contexts_at kind units size lists row)

-- ---- reading

-- a byte before the front of a cut (plain)
abbrev pub with_front : ℕ → Option (List ℕ × List ℕ) → Option (List ℕ × List ℕ)
with_front b None = None
with_front b (Some cut) = Some (b ∷ cut.0, cut.1)

-- the front of these bytes that takes n bytes with its emulation prevention, and the rest. The bytes before were p
-- and then q (7.4.2.1, 7.4.7.1)
unfoldable pub cut_after : ℕ → ℕ → ℕ → List ℕ → Option (List ℕ × List ℕ)
cut_after p q zero bytes = Some ([], bytes)
cut_after p q (suc n) [] = None
cut_after p q (suc n) (b ∷ bytes) =
    if p == 0 && q == 0 && nat_le b 3 then elim n [ zero ↦ None | suc m ↦ with_front b (cut_after 3 b m bytes) ]
    else with_front b (cut_after q b n bytes)

-- the substreams by the entry points; the last takes the rest (entry_point_offset_minus1, 7.4.7.1)
unfoldable pub substreams : List ℕ → List ℕ → Option (List (List ℕ))
substreams [] bytes = Some (bytes ∷ [])
substreams (offset ∷ offsets) bytes = do
  cut ← cut_after 255 255 offset bytes
  others ← substreams offsets cut.1
  Some (cut.0 ∷ others)

-- the parsing of end_of_subset_one_bit, after each row but the last (7.3.8.1)
abbrev pub subset_end : Size → ℕ → List ReadCtu → Reader (List ReadCtu)
subset_end size row read = if row + 1 == ctus size.h then give read else expect Terminate true (give read)

-- the parsing of a row of a slice that is one segment, after the units of the rows above (7.3.8.1)
unfoldable pub slice_row_read : SliceKind → Size → ℕ → List Moving → Reader (List ReadCtu)
slice_row_read kind size row before =
    Engine.◌>>=◌ (ctus_read kind size (is_last size) (ctus size.w) (row * ctus size.w) before) (subset_end size row)

-- the parsing of a row that is a slice segment: end_of_slice_segment_flag ends it (7.3.8.1)
unfoldable pub segment_row_read : SliceKind → Size → ℕ → List Moving → Reader (List ReadCtu)
segment_row_read kind size row before = ctus_read kind size (ends_row size) (ctus size.w) (row * ctus size.w) before

-- TableStateIdxWpp: what a row hands on, the contexts after its second coding tree unit (9.3.1, 9.3.2.3)
abbrev pub handed_on : List ReadCtu → List ℕ
handed_on (first ∷ second ∷ ctus) = second.contexts
handed_on _ = []

-- the parsing of a row from these bytes, all of them (7.3.8.1, 9.3.1)
unfoldable pub row_of_bytes : Reader (List ReadCtu) → List ℕ → List ℕ → Option (List ReadCtu)
row_of_bytes row_read contexts bytes = do
  first ← start contexts (bits bytes)
  read ← row_read first
  if is_done read.1 then Some read.0 else None

-- the parsing of the rows from this number on, after these units and what the row above handed on (7.3.8.1, 9.3.1)
unfoldable pub rows_read : SliceKind → Size → ℕ → List Moving → List ℕ → List (List ℕ) → Option (List ReadUnit)
rows_read kind size row before handed [] = Some []
rows_read kind size row before handed (bytes ∷ rows) = do
  read ← row_of_bytes (slice_row_read kind size row before) (row_start kind (ctus size.w) row handed) bytes
  others ← rows_read kind size (row + 1) (units_after before (units_of read)) (handed_on read) rows
  Some (units_of read ++ others)

-- the parsing of slice_segment_data after a header with these entry points: what it holds, by coding unit (7.3.8.1)
abbrev pub slice_read : SliceKind → Size → List ℕ → List ℕ → Option (List ReadUnit)
slice_read kind size offsets bytes = do
  rows ← substreams offsets bytes
  rows_read kind size 0 [] [] rows

-- the parsing of slice_segment_data of a row, after these units and what the row above handed on (7.3.8.1)
abbrev pub segment_read : SliceKind → Size → ℕ → List Moving → List ℕ → List ℕ → Option (List ReadCtu)
segment_read kind size row before handed bytes =
    row_of_bytes (segment_row_read kind size row before) (row_start kind (ctus size.w) row handed) bytes

-- what is written as a slice: lawful leaves of all coding tree units, with their levels and samples (7.3.8.1)
pub record IsSlice (kind : SliceKind) (size : Size) (source : Source) (leaves : List (List Leaf)) : Type 0 where
  pub wide : 0 < ctus size.w
  pub many : length leaves ≡ ctus size.w * ctus size.h
  pub lawful : AreLawfulTrees kind size leaves (ctus size.w * ctus size.h)
  pub source_is : IsSource source
