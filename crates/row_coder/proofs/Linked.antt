-- Rows that are coded one by one give what the slice's definition says.
use Rattle.std.proofs.Common.{◌≡◌, refl, sym, ◌∙◌, ap, subst, ℕ, zero, suc, ◌+◌, ◌*◌, ◌/◌, ◌<◌, ◌≤◌, List, [], ◌∷◌, ◌++◌, Bool, true, false, cond, take, drop, get_or, append_assoc, arith}
use Rattle.std.specs.Prelude.{Option, Some, None, ◌==◌, nat_le, slice_index_or}
use Rattle.std.specs.List.{AllByRecursion, flat_map, range_with_len}
use Rattle.std.proofs.lemmas.Bool.{cond-false, eqb-true, eqb-false, lt-leb}
use Rattle.std.proofs.lemmas.Grind.{flat_map-append}
use Rattle.std.proofs.lemmas.List.{get_or-take, get_or-drop, take-take}
use Rattle.std.proofs.lemmas.Nat.{mul-le, div-mul-add, div_below}
use Rattle.std.proofs.Math.Seq.{take-add}
use Rattle.h265_model.specs.declared.Item.{Item}
use Rattle.h265_model.specs.declared.leaf.Leaf.{Leaf}
use Rattle.h265_model.specs.declared.leaf.SliceKind.{SliceKind}
use Rattle.h265_model.specs.Plain.{Size, Picture, ctus, joined, terminate_bin, ctu_y}
use Rattle.h265_model.specs.Contexts.{row_start}
use Rattle.h265_model.specs.Code.{contexts_after}
use Rattle.h265_model.specs.Tree.{leaf_units, Source, ctu_items, ctu_with_flag, ctus_items, items_of_row, is_last, source_of, AreLawfulTrees}
use Rattle.h265_model.specs.Slice.{contexts_at, row_code}
use Rattle.h265_model.specs.Board.{row_inherits}
use Rattle.h265_model.specs.Wave.{Jobs, inherited}
use Rattle.h265_model.proofs.ListParts.{all_append}
use Rattle.h265_laws.proofs.RowLaw.{joined_take}
use Rattle.px_plane.specs.Planes.{Planes, picture_of}
use Rattle.row_coder.specs.Sources.{picture_source}
use Rattle.row_coder.specs.Rows.{Row, first_ctus, flagged_ctu, whole_row, first_contexts, plan_of}
use Rattle.row_coder.specs.Laws.{row_leaves, leaves_above, IsRowOf, ArePictureLeaves, IsCodedRow, EachRowIsCoded, EachJobIsCoded}
use Rattle.row_coder.proofs.RowSteps.{in_picture}
use Rattle.row_coder.proofs.Walks.{Agree, IsBefore, agree_far, ctu_same, unit_before}

joined_append : (a b : List (List Leaf)) → joined (a ++ b) ≡ joined a ++ joined b
joined_append a b = flat_map-append (λ (list : List Leaf). list) a b

module _ (size : Size) (leaves : List (List Leaf)) where
  abbrev w : ℕ
  w = ctus size.w

  -- the leaves of the rows above and of the first units of a row
  parts : (row i : ℕ) → i ≤ w → joined (take (row * w + i) leaves) ≡ joined (take (row * w) leaves) ++ joined (take i (row_leaves size leaves row))
  parts row i few =
      ap (λ (l : List (List Leaf)). joined l) (take-add (row * w) i leaves) ∙ (joined_append (take (row * w) leaves) (take i (drop (row * w) leaves))
      ∙ ap (λ (l : List (List Leaf)). joined (take (row * w) leaves) ++ joined l) (sym (take-take i w (drop (row * w) leaves) few)))

  unit_is : (row i : ℕ) → i < w → get_or (row_leaves size leaves row) i [] ≡ get_or leaves (row * w + i) []
  unit_is row i less = get_or-take w (drop (row * w) leaves) i [] less ∙ get_or-drop (row * w) leaves i []

  module _ (kind : SliceKind) (some : 0 < w) (lawful : AreLawfulTrees kind size leaves (w * ctus size.h)) where
    row_of : (row i : ℕ) → i < w → (row * w + i) / w ≡ row
    row_of row i less = div-mul-add row w i less

    far_before : (n row : ℕ) → n ≤ row * w → row ≤ ctus size.h → AllByRecursion (IsBefore (row * 32)) (joined (take n leaves))
    far_before zero row a b = tt
    far_before (suc n) row a b =
        let total : row * w ≤ w * ctus size.h = (let m : row * w ≤ ctus size.h * w = mul-le row w (ctus size.h) w b (omega arith) in omega arith) in
        subst (AllByRecursion (IsBefore (row * 32))) (sym (joined_take leaves n))
        (all_append (IsBefore (row * 32)) (joined (take n leaves)) (get_or leaves n []) (far_before n row (omega arith) b)
        (unit_before size n row (get_or leaves n []) (div_below n w row some (omega arith)) (lawful.tree n (omega arith))))

    agrees : (row i : ℕ) → row < ctus size.h → i ≤ w → Agree (row * 32) (leaves_above size leaves row ++ joined (take i (row_leaves size leaves row))) (joined (take (row * w + i) leaves))
    agrees zero i less few = subst (Agree 0 (joined (take i (row_leaves size leaves 0)))) (sym (parts 0 i few ∙ ap (λ (k : ℕ). joined (take k leaves) ++ joined (take i (row_leaves size leaves 0))) (let e : 0 * w ≡ 0 = omega arith in e))) (record { each = λ x y h. refl })
    agrees (suc row) i less few =
        let top : suc row * w ≡ row * w + w = omega arith in
        let near : List Leaf = joined (row_leaves size leaves row) ++ joined (take i (row_leaves size leaves (suc row))) in
        subst (Agree (suc row * 32) near)
        (sym (parts (suc row) i few
        ∙ (ap (λ (l : List Leaf). l ++ joined (take i (row_leaves size leaves (suc row)))) (ap (λ (k : ℕ). joined (take k leaves)) top ∙ (parts row w (omega arith) ∙ ap (λ (l : List (List Leaf)). joined (take (row * w) leaves) ++ joined l) (take-take w w (drop (row * w) leaves) (omega arith))))
        ∙ append_assoc (joined (take (row * w) leaves)) (joined (row_leaves size leaves row)) (joined (take i (row_leaves size leaves (suc row)))))))
        (agree_far (suc row * 32) (row * 32) (joined (take (row * w) leaves)) near (omega arith) (far_before (row * w) row (omega arith) (omega arith)))

    unit_same : (picture : Picture) (row i : ℕ) → row < ctus size.h → i < w
        → flagged_ctu kind size (picture_source size picture) (leaves_above size leaves row) (row_leaves size leaves row) row i ≡ ctu_with_flag (leaf_units kind (source_of size picture)) size (is_last size) leaves (row * w + i)
    unit_same picture row i less few =
        let ctu : ℕ = row * w + i in
        let inside : ctu < w * ctus size.h = in_picture row i w (ctus size.h) less few in
        let y : ctu_y size ctu ≡ row * 32 = ap (λ (k : ℕ). k * 32) (row_of row i few) in
        ap (λ (l : List Item). l ++ terminate_bin (is_last size ctu) ∷ [])
        (ap (λ (l : List Leaf). ctu_items (leaf_units kind (picture_source size picture)) size (leaves_above size leaves row ++ joined (take i (row_leaves size leaves row))) l ctu) (unit_is row i few)
        ∙ ctu_same kind size picture (leaves_above size leaves row ++ joined (take i (row_leaves size leaves row))) (joined (take ctu leaves)) (get_or leaves ctu []) ctu (lawful.tree ctu inside) (subst (λ (k : ℕ). Agree k (leaves_above size leaves row ++ joined (take i (row_leaves size leaves row))) (joined (take ctu leaves))) (sym y) (agrees row i less (omega arith))))

    same_units : (f g : ℕ → List Item) (a n : ℕ) → ((i : ℕ) → i < a + n → f i ≡ g i) → flat_map f (range_with_len a n) ≡ flat_map g (range_with_len a n)
    same_units f g a zero h = refl
    same_units f g a (suc n) h = rw (h a (omega arith), same_units f g (a + 1) n (λ i k. h i (omega arith))) refl

    first_same : (picture : Picture) (row n : ℕ) → row < ctus size.h → n ≤ w
        → first_ctus kind size (picture_source size picture) (leaves_above size leaves row) (row_leaves size leaves row) row n ≡ ctus_items (leaf_units kind (source_of size picture)) size (is_last size) leaves row n
    unfolding first_ctus
    first_same picture row n less few = same_units _ _ 0 n (λ i k. unit_same picture row i less (omega arith))

    whole_same : (picture : Picture) (row : ℕ) → row < ctus size.h
        → whole_row kind size (picture_source size picture) (leaves_above size leaves row) (row_leaves size leaves row) row ≡ items_of_row (leaf_units kind (source_of size picture)) size leaves row
    unfolding items_of_row
    whole_same picture row less = ap (λ (l : List Item). l ++ cond (row + 1 == ctus size.h) [] (terminate_bin true ∷ [])) (first_same picture row w less (omega arith))

-- ---- what a row hands on and gives

module _ (planes : Planes) (kind : SliceKind) (leaves : List (List Leaf)) (are : ArePictureLeaves planes kind leaves) where
  abbrev size : Size
  size = planes.size

  abbrev source : Source
  source = source_of planes.size (picture_of planes)

  second_is : (row : ℕ) (r : Row) (inherits : Option (List ℕ)) → row < ctus planes.size.h → 2 ≤ ctus planes.size.w → IsRowOf planes kind leaves row r
      → first_contexts kind (ctus planes.size.w) row inherits ≡ contexts_at kind (leaf_units kind source) planes.size leaves row
      → (plan_of r).second inherits ≡ contexts_after (ctus_items (leaf_units kind source) planes.size (is_last planes.size) leaves row 2) (contexts_at kind (leaf_units kind source) planes.size leaves row)
  unfolding plan_of
  second_is row r inherits less two is starts =
      rw (is.planes_are, is.kind_is, is.number_is, is.above_is, is.plans_are, first_same planes.size leaves kind are.wide are.lawful (picture_of planes) row 2 less two, starts) refl

  bytes_is : (row : ℕ) (r : Row) (inherits : Option (List ℕ)) → row < ctus planes.size.h → IsRowOf planes kind leaves row r
      → first_contexts kind (ctus planes.size.w) row inherits ≡ contexts_at kind (leaf_units kind source) planes.size leaves row
      → (plan_of r).bytes inherits ≡ row_code kind (leaf_units kind source) planes.size leaves row
  unfolding plan_of
  bytes_is row r inherits less is starts =
      rw (is.planes_are, is.kind_is, is.number_is, is.above_is, is.plans_are, whole_same planes.size leaves kind are.wide are.lawful (picture_of planes) row less, starts) refl

  -- the first row, and a row in a picture of one column, starts from the contexts of a slice
  starts_first : first_contexts kind (ctus planes.size.w) 0 None ≡ contexts_at kind (leaf_units kind source) planes.size leaves 0
  unfolding contexts_at row_start
  starts_first = refl

  starts_narrow : (row : ℕ) → ctus planes.size.w ≡ 1 → first_contexts kind (ctus planes.size.w) (suc row) None ≡ contexts_at kind (leaf_units kind source) planes.size leaves (suc row)
  unfolding contexts_at row_start
  starts_narrow row e = sym (cond-false (nat_le 2 (ctus planes.size.w)) _ _ (lt-leb _ _ (omega arith)))

  starts_next : (row : ℕ) (above : List ℕ) → 2 ≤ ctus planes.size.w → above ≡ contexts_after (ctus_items (leaf_units kind source) planes.size (is_last planes.size) leaves row 2) (contexts_at kind (leaf_units kind source) planes.size leaves row)
      → first_contexts kind (ctus planes.size.w) (suc row) (Some above) ≡ contexts_at kind (leaf_units kind source) planes.size leaves (suc row)
  unfolding contexts_at
  starts_next row above two e = ap (λ (c : List ℕ). row_start kind (ctus planes.size.w) (suc row) c) e

  next : (row : ℕ) (b : Bool) (above : List ℕ) → (ctus planes.size.w == 1) ≡ b
      → (2 ≤ ctus planes.size.w → above ≡ contexts_after (ctus_items (leaf_units kind source) planes.size (is_last planes.size) leaves row 2) (contexts_at kind (leaf_units kind source) planes.size leaves row))
      → first_contexts kind (ctus planes.size.w) (suc row) (cond b None (Some above)) ≡ contexts_at kind (leaf_units kind source) planes.size leaves (suc row)
  next row true above e f = starts_narrow row (eqb-true _ _ e)
  next row false above e f =
      let two : 2 ≤ ctus planes.size.w = (let one = eqb-false _ _ e in let some = are.wide in wide_two (ctus planes.size.w) some one) in
      starts_next row above two (f two)
    where
      wide_two : (n : ℕ) → 0 < n → (n ≡ 1 → ⊥) → 2 ≤ n
      wide_two zero h k = absurd (omega arith)
      wide_two (suc zero) h k = absurd (k refl)
      wide_two (suc (suc n)) h k = omega arith

  row_coded : (row : ℕ) (r : Row) (inherits : Option (List ℕ)) → row < ctus planes.size.h → IsRowOf planes kind leaves row r
      → first_contexts kind (ctus planes.size.w) row inherits ≡ contexts_at kind (leaf_units kind source) planes.size leaves row → IsCodedRow planes kind leaves row r inherits
  row_coded row r inherits less is starts = record { starts = starts; gives = bytes_is row r inherits less is starts }

  module _ (rows : ℕ → Row) (each : (row : ℕ) → row < ctus planes.size.h → IsRowOf planes kind leaves row (rows row)) where
    board_starts : (want : List (List ℕ))
        → ((row : ℕ) → row < ctus planes.size.h → 2 ≤ ctus planes.size.w → slice_index_or want row [] ≡ (plan_of (rows row)).second (row_inherits (ctus planes.size.w) want row))
        → (row : ℕ) → row < ctus planes.size.h → first_contexts kind (ctus planes.size.w) row (row_inherits (ctus planes.size.w) want row) ≡ contexts_at kind (leaf_units kind source) planes.size leaves row
    board_starts want wants zero less = starts_first
    board_starts want wants (suc row) less =
        next row (ctus planes.size.w == 1) (slice_index_or want row []) refl
        (λ two. wants row (omega arith) two ∙ second_is row (rows row) (row_inherits (ctus planes.size.w) want row) (omega arith) two (each row (omega arith)) (board_starts want wants row (omega arith)))

    abbrev jobs : Jobs
    jobs = record { width = ctus planes.size.w; second = λ r. (plan_of (rows r)).second; bytes = λ r. (plan_of (rows r)).bytes }

    job_starts : (row : ℕ) → row < ctus planes.size.h → first_contexts kind (ctus planes.size.w) row (inherited jobs row) ≡ contexts_at kind (leaf_units kind source) planes.size leaves row
    unfolding inherited
    job_starts zero less = starts_first
    job_starts (suc row) less =
        next row (ctus planes.size.w == 1) ((plan_of (rows row)).second (inherited jobs row)) refl
        (λ two. second_is row (rows row) (inherited jobs row) (omega arith) two (each row (omega arith)) (job_starts row (omega arith)))

pub each_row_is_coded : EachRowIsCoded
each_row_is_coded planes kind leaves rows want are each wants row less =
    row_coded planes kind leaves are row (rows row) (row_inherits (ctus planes.size.w) want row) less (each row less) (board_starts planes kind leaves are rows each want wants row less)

pub each_job_is_coded : EachJobIsCoded
each_job_is_coded planes kind leaves rows are each row less =
    row_coded planes kind leaves are row (rows row) _ less (each row less) (job_starts planes kind leaves are rows each row less)
