-- The rows of a picture, whatever is written of its coding tree units.
use Rattle.std.specs.Prelude.{◌≡◌, ◌<◌, ℕ, zero, suc, ◌+◌, ◌*◌, ◌-◌, Bool, true, false, not, ◌==◌, List, [], ◌∷◌, ◌++◌, get_or, take, if◌then◌else◌}
use Rattle.std.specs.List.{flat_map}
use Rattle.h265_model.specs.declared.Item.{Item}
use Rattle.h265_model.specs.declared.Place.TheVariants.{Terminate}
use Rattle.h265_model.specs.declared.leaf.SliceKind.{SliceKind}
use Rattle.h265_model.specs.Plain.{Size, ctus, below, joined, terminate_bin}
use Rattle.h265_model.specs.Contexts.{start, row_start}
use Rattle.h265_model.specs.Code.{Phase, phase_after, code, contexts_after}
use Rattle.h265_model.specs.Tree.{Units, ctu_items, is_last, ends_row}
use Rattle.bin_items.specs.Growth.{IsOpen}
use Rattle.row_sequence.specs.declared.writer.Ending.{Ending}
use Rattle.row_sequence.specs.declared.writer.Ending.TheVariants.{Slice, Segment}

-- what is written of each coding tree unit of a picture, by its number (7.3.8.2)
abbrev pub CtuItems : Type 0
CtuItems = ℕ → List Item

-- that of these units of each coding tree unit
abbrev pub items_by : {Unit Kept : Type 0} → Units Unit Kept → Size → List (List Unit) → CtuItems
items_by units size lists ctu = ctu_items units size (units.after [] (joined (take ctu lists))) (get_or lists ctu []) ctu

-- end_of_slice_segment_flag after a coding tree unit (7.4.9.1)
abbrev pub ends_of : Ending → Size → ℕ → Bool
ends_of Slice size ctu = is_last size ctu
ends_of Segment size ctu = ends_row size ctu

-- whether end_of_subset_one_bit ends the row (7.3.8.1)
abbrev pub has_end : Ending → Size → ℕ → Bool
has_end Slice size row = not (row + 1 == ctus size.h)
has_end Segment size row = false

-- a coding tree unit of a row with its flag (7.3.8.1)
abbrev pub with_flag : (ℕ → Bool) → Size → CtuItems → ℕ → ℕ → List Item
with_flag ends size items row i = items (row * ctus size.w + i) ++ terminate_bin (ends (row * ctus size.w + i)) ∷ []

-- the first n of them
unfoldable pub flagged : (ℕ → Bool) → Size → CtuItems → ℕ → ℕ → List Item
flagged ends size items row n = flat_map (with_flag ends size items row) (below n)

-- all of them, and the end of the row
abbrev pub row_of : Ending → Size → CtuItems → ℕ → List Item
row_of ending size items row = flagged (ends_of ending size) size items row (ctus size.w) ++ (if has_end ending size row then terminate_bin true ∷ [] else [])

-- the contexts that the row above hands on: those after its second coding tree unit (9.3.2.3). The flags have no contexts, so these are the same in slices and
-- segments
unfoldable pub handed_of : SliceKind → Size → CtuItems → ℕ → List ℕ
handed_of kind size items zero = start kind
handed_of kind size items (suc row) = contexts_after (flagged (is_last size) size items row 2) (row_start kind (ctus size.w) row (handed_of kind size items row))

-- those that a row starts from (9.3.1)
abbrev pub contexts_of : SliceKind → Size → CtuItems → ℕ → List ℕ
contexts_of kind size items row = row_start kind (ctus size.w) row (handed_of kind size items row)

-- the bytes of a row (9.3.5.1)
unfoldable pub code_of : Ending → SliceKind → Size → CtuItems → ℕ → List ℕ
code_of ending kind size items row = code (row_of ending size items row) (contexts_of kind size items row)

-- what may follow so many coding tree units of a row: another one, or the end of the row after the last flag
pub record IsAfter (ending : Ending) (size : Size) (row n : ℕ) (phase : Phase) : Type 0 where
  pub is_open : n < ctus size.w → IsOpen phase
  pub is_last_one : n ≡ ctus size.w → phase ≡ phase_after Terminate (ends_of ending size (row * ctus size.w + (ctus size.w - 1)))
