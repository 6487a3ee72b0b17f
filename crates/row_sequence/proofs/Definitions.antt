-- Rows of units are the rows of slices and the segments of the definitions, whatever the units are.
use Rattle.std.proofs.Common.{◌≡◌, refl, sym, ◌∙◌, ap, ℕ, zero, suc, ◌+◌, List, [], ◌∷◌, ◌++◌, Bool, true, false, not, cond, append-nil}
use Rattle.std.specs.Prelude.{◌==◌}
use Rattle.h265_model.specs.declared.Item.{Item}
use Rattle.h265_model.specs.declared.leaf.SliceKind.{SliceKind}
use Rattle.h265_model.specs.Plain.{Size, ctus, terminate_bin}
use Rattle.h265_model.specs.Contexts.{row_start}
use Rattle.h265_model.specs.Code.{code, contexts_after}
use Rattle.h265_model.specs.Tree.{Units, ctus_items, items_of_row, items_of_segment, is_last, ends_row}
use Rattle.h265_model.specs.Slice.{contexts_at, row_code, segment_code}
use Rattle.row_sequence.specs.declared.writer.Ending.TheVariants.{Slice, Segment}
use Rattle.row_sequence.specs.Laws.{AreCodes}
use Rattle.row_sequence.specs.Sequence.{CtuItems, items_by, flagged, row_of, handed_of, contexts_of, code_of}

module _ {Unit Kept : Type 0} (kind : SliceKind) (units : Units Unit Kept) (size : Size) (lists : List (List Unit)) where
  abbrev items : CtuItems
  items = items_by units size lists

  flagged_are : (ends : ℕ → Bool) (row n : ℕ) → flagged ends size items row n ≡ ctus_items units size ends lists row n
  unfolding flagged
  flagged_are ends row n = refl

  contexts_are : (row : ℕ) → contexts_of kind size items row ≡ contexts_at kind units size lists row
  unfolding contexts_at handed_of row_start
  contexts_are zero = refl
  contexts_are (suc row) =
      ap (λ (c : List ℕ). row_start kind (ctus size.w) (suc row) c)
      (ap (λ (l : List Item). contexts_after l (contexts_of kind size items row)) (flagged_are (is_last size) row 2)
      ∙ ap (λ (c : List ℕ). contexts_after (ctus_items units size (is_last size) lists row 2) c) (contexts_are row))

  row_is : (row : ℕ) → row_of Slice size items row ≡ items_of_row units size lists row
  unfolding items_of_row
  row_is row = ap (λ (l : List Item). l ++ cond (not (row + 1 == ctus size.h)) (terminate_bin true ∷ []) []) (flagged_are (is_last size) row (ctus size.w)) ∙ go (row + 1 == ctus size.h)
    where
      go : (b : Bool) → ctus_items units size (is_last size) lists row (ctus size.w) ++ cond (not b) (terminate_bin true ∷ []) []
          ≡ ctus_items units size (is_last size) lists row (ctus size.w) ++ cond b [] (terminate_bin true ∷ [])
      go true = refl
      go false = refl

  segment_is : (row : ℕ) → row_of Segment size items row ≡ items_of_segment units size lists row
  unfolding items_of_segment
  segment_is row = append-nil (flagged (ends_row size) size items row (ctus size.w)) ∙ flagged_are (ends_row size) row (ctus size.w)

  -- a row of a slice
  pub row_code_is : (row : ℕ) → code_of Slice kind size items row ≡ row_code kind units size lists row
  unfolding code_of
  row_code_is row = ap (λ (l : List Item). code l (contexts_of kind size items row)) (row_is row) ∙ ap (code (items_of_row units size lists row)) (contexts_are row)

  -- a row that is a segment
  pub segment_code_is : (row : ℕ) → code_of Segment kind size items row ≡ segment_code kind units size lists row
  unfolding code_of
  segment_code_is row = ap (λ (l : List Item). code l (contexts_of kind size items row)) (segment_is row) ∙ ap (code (items_of_segment units size lists row)) (contexts_are row)

  pub are_codes : (row : ℕ) → AreCodes kind units size lists row
  are_codes row = record { in_slice = row_code_is row; in_segment = segment_code_is row }
