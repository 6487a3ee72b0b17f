-- How long codes can get where blocks may move: entry points fit their fields.
use Rattle.std.proofs.Common.{ℕ, zero, suc, ◌+◌, ◌*◌, ◌^◌, ◌<◌, ◌≤◌, List, [], ◌∷◌, ◌++◌, Bool, true, false, cond, not, length, get_or, length-append, arith}
use Rattle.std.specs.Prelude.{nat_lt, nat_abs, ◌==◌}
use Rattle.std.specs.List.{flat_map, range_with_len}
use Rattle.h265_model.specs.declared.Item.{Item}
use Rattle.h265_model.specs.declared.leaf.SliceKind.{SliceKind}
use Rattle.h265_model.specs.declared.moves.Vector.{Vector}
use Rattle.h265_model.specs.declared.moves.MoveLeaf.{MoveLeaf}
use Rattle.h265_model.specs.declared.moves.MoveKind.{MoveKind}
use Rattle.h265_model.specs.declared.moves.MoveKind.TheVariants as moves
use Rattle.h265_model.specs.Plain.{block_at, Size, ctus, context_bin, bypass_bin, terminate_bin, ctu_x, ctu_y}
use Rattle.h265_model.specs.Code.{code}
use Rattle.h265_model.specs.NalUnits.{escape}
use Rattle.h265_model.specs.Predict.{is_inside}
use Rattle.h265_model.specs.Binarise.{eg, bypass_bins}
use Rattle.h265_model.specs.Residual.{IsSide, is_negative}
use Rattle.h265_model.specs.Tree.{moving, unit_block, Source, IsSource, split_context, skip_context, is_whole, is_last}
use Rattle.h265_model.specs.Motion.{Moving, leaves, leaf_as_coded, predictors, predictor, difference, greater1_of, size_items, part_items, difference_items, second_is_nearer, move_items}
use Rattle.h265_model.specs.Tree.{Walk, walk_on, and_walk, quarters, no_walk, coding_unit_walk, is_next, tree_walk, ctu_items, coded_first, ctu_with_flag, ctus_items, items_of_row, items_of_segment, moved_unit, unit_of_kind, move_unit}
use Rattle.h265_laws.proofs.LengthLaw.{length_bypass, length_eg, length_unit, code_length, escape_length}
use Rattle.h265_laws.proofs.EndsLaw.{code_ends}
use Rattle.h265_laws.proofs.SubstreamLaw.{ends_in}
use Rattle.unit_laws.specs.Laws.{EachUnitRowIsSubstream}
use Rattle.unit_laws.proofs.UnitForm.{UnitsHaveSides, AllUnitsHaveSides, lawful_sides, slice_form, segment_form}
use Rattle.h265_model.specs.Tree.{ends_row}
use Rattle.h265_model.specs.Slice.{contexts_at}

-- ---- units

length_greater1 : (n : ℕ) → length (greater1_of n) ≤ 1
length_greater1 zero = omega arith
length_greater1 (suc n) = omega arith

length_size : (n : ℕ) (negative : Bool) → length (size_items n negative) ≤ 33
length_size zero negative = omega arith
length_size (suc zero) negative = omega arith
length_size (suc (suc n)) negative = omega (arith, length-append (bypass_bins (eg 1 n)) (bypass_bin negative ∷ []), length_bypass (eg 1 n), length_eg 15 1 n)

length_four : (a b c d : List Item) (x y : Item) → length a ≤ 1 → length b ≤ 1 → length c ≤ 33 → length d ≤ 33 → length ((x ∷ y ∷ []) ++ (a ++ (b ++ (c ++ d)))) ≤ 70
length_four a b c d x y ha hb hc hd = omega (arith, length-append a (b ++ (c ++ d)), length-append b (c ++ d), length-append c d)

length_difference : (d : Vector) → length (difference_items d) ≤ 70
unfolding difference_items
length_difference d =
    length_four (greater1_of (nat_abs d.x)) (greater1_of (nat_abs d.y)) (part_items d.x) (part_items d.y) (context_bin (nat_lt 0 (nat_abs d.x)) 127) (context_bin (nat_lt 0 (nat_abs d.y)) 127)
    (length_greater1 (nat_abs d.x)) (length_greater1 (nat_abs d.y)) (length_size (nat_abs d.x) (is_negative d.x)) (length_size (nat_abs d.y) (is_negative d.y))

length_around : (a : List Item) (x y z : Item) → length a ≤ 70 → length (x ∷ (a ++ (y ∷ z ∷ []))) ≤ 73
length_around a x y z h = omega (arith, length-append a (y ∷ z ∷ []))

length_move : (v : Vector) (both : Vector × Vector) → length (move_items v both) ≤ 73
unfolding move_items
length_move v both =
    let second : Bool = second_is_nearer v both in
    length_around (difference_items (difference v (predictor second both))) (context_bin false 125) (context_bin second 126) (context_bin false 129) (length_difference (difference v (predictor second both)))

length_behind : (a : List Item) (w x y z : Item) → length a ≤ 73 → length ((w ∷ x ∷ y ∷ z ∷ []) ++ a) ≤ 136000
length_behind a w x y z h = omega arith

length_moved : (before : List Moving) (unit : MoveLeaf) (v : Vector) → length (moved_unit before unit v) ≤ 136000
unfolding moved_unit
length_moved before unit v = length_behind (move_items v (predictors before unit.block)) (context_bin true 0) (context_bin false (skip_context (leaves before) unit.block.x unit.block.y)) (context_bin false 7) (context_bin true 8) (length_move v (predictors before unit.block))

length_move_unit : (kind : SliceKind) (source : Source) (before : List Moving) (unit : MoveLeaf) → IsSource source → IsSide unit.block.log2 → length (move_unit kind source before unit) ≤ 136000
unfolding move_unit
length_move_unit kind source before unit is side = go unit.kind
  where
    still : length (unit_of_kind kind source before unit moves.Pcm) ≤ 136000
    still = length_unit kind source (leaves before) (leaf_as_coded unit) is side

    go : (k : MoveKind) → length (unit_of_kind kind source before unit k) ≤ 136000
    go moves.Skip = still
    go (moves.Move v) = length_moved before unit v
    go moves.Pcm = still
    go (moves.Intra mode) = still

-- ---- trees

-- how many items a block has at most
most_items : ℕ → ℕ
most_items zero = 136000
most_items (suc depth) = 4 * most_items depth + 136001

record IsSmall (n : ℕ) (w : Walk MoveLeaf Moving) : Type 0 where
  short : length w.list ≤ n
  left : UnitsHaveSides w.left

short_on : (list : List Item) (w : Walk MoveLeaf Moving) (m n : ℕ) → length list ≤ m → IsSmall n w → IsSmall (m + n) (walk_on list w)
short_on list w m n h k = record { short = let s : length w.list ≤ n = k.short in omega (arith, length-append list w.list); left = k.left }

short_both : (w : Walk MoveLeaf Moving) (go : List Moving → List MoveLeaf → Walk MoveLeaf Moving) (m n : ℕ) → IsSmall m w → ((before : List Moving) (left : List MoveLeaf) → UnitsHaveSides left → IsSmall n (go before left)) → IsSmall (m + n) (and_walk w go)
short_both w go m n h k = short_on w.list (go w.before w.left) m n h.short (k w.before w.left h.left)

shorter : (w : Walk MoveLeaf Moving) (m n : ℕ) → m ≤ n → IsSmall m w → IsSmall n w
shorter w m n h k = record { short = let s : length w.list ≤ m = k.short in omega arith; left = k.left }

none_short : (n : ℕ) (before : List Moving) (left : List MoveLeaf) → UnitsHaveSides left → IsSmall n (no_walk before left)
none_short n before left h = record { short = omega arith; left = h }

module _ (kind : SliceKind) (size : Size) (source : Source) (is : IsSource source) where
  one_short : (before : List Moving) (left : List MoveLeaf) → UnitsHaveSides left → IsSmall 136000 (coding_unit_walk (moving (move_unit kind source)) before left)
  one_short before [] h = record { short = omega arith; left = tt }
  one_short before (leaf ∷ left) h = record { short = length_move_unit kind source before leaf is h.0; left = h.1 }

  tree_short : (depth x y : ℕ) (before : List Moving) (left : List MoveLeaf) → UnitsHaveSides left → IsSmall (most_items depth) (tree_walk (moving (move_unit kind source)) size depth x y before left)
  unfolding most_items
  tree_short zero x y before left h = go (is_inside size x y)
    where
      go : (b : Bool) → IsSmall 136000 (cond b (coding_unit_walk (moving (move_unit kind source)) before left) (no_walk before left))
      go true = one_short before left h
      go false = none_short 136000 before left h
  tree_short (suc depth) x y before left h =
      go (not (is_inside size x y)) (not (is_whole size (2 * half) x y)) (is_next unit_block (4 + depth) left) (λ px py b l k. tree_short depth px py b l k)
    where
      half : ℕ
      half = 2 ^ (3 + depth)

      n : ℕ
      n = most_items depth

      Lower : Type 0
      Lower = (px py : ℕ) (b : List Moving) (l : List MoveLeaf) → UnitsHaveSides l → IsSmall n (tree_walk (moving (move_unit kind source)) size depth px py b l)

      split : Walk MoveLeaf Moving
      split = quarters (tree_walk (moving (move_unit kind source)) size depth) half x y before left

      flag : Bool → List Item
      flag value = context_bin value (split_context (leaves before) (block_at x y (4 + depth))) ∷ []

      split_short : Lower → IsSmall (n + n + n + n) split
      split_short lower =
          short_both _ _ (n + n + n) n (short_both _ _ (n + n) n (short_both _ _ n n (lower x y before left h) (lower (x + half) y)) (lower x (y + half))) (lower (x + half) (y + half))

      go : (a b c : Bool) → Lower → IsSmall (4 * n + 136001) (cond a (no_walk before left) (cond b split (cond c (walk_on (flag false) (coding_unit_walk (moving (move_unit kind source)) before left)) (walk_on (flag true) split))))
      go true b c lower = none_short _ before left h
      go false true c lower = shorter split (n + n + n + n) _ (omega arith) (split_short lower)
      go false false true lower = shorter _ (1 + 136000) _ (omega arith) (short_on (flag false) _ 1 136000 (omega arith) (one_short before left h))
      go false false false lower = shorter _ (1 + (n + n + n + n)) _ (omega arith) (short_on (flag true) _ 1 (n + n + n + n) (omega arith) (split_short lower))

  -- ---- rows

  length_ctu : (ends : ℕ → Bool) (units : List (List MoveLeaf)) (ctu : ℕ) → AllUnitsHaveSides units → length (ctu_with_flag (moving (move_unit kind source)) size ends units ctu) ≤ 2900000
  unfolding ctu_items most_items
  length_ctu ends units ctu sides =
      let list : List Item = ctu_items (moving (move_unit kind source)) size (coded_first units ctu) (get_or units ctu []) ctu in
      let short : length list ≤ 2856005 = (tree_short 2 (ctu_x size ctu) (ctu_y size ctu) (coded_first units ctu) (get_or units ctu []) (sides ctu)).short in
      omega (arith, length-append list (terminate_bin (ends ctu) ∷ []))

  length_ctus : (ends : ℕ → Bool) (units : List (List MoveLeaf)) (base first n : ℕ) → AllUnitsHaveSides units
      → length (flat_map (λ i. ctu_with_flag (moving (move_unit kind source)) size ends units (base + i)) (range_with_len first n)) ≤ n * 2900000
  length_ctus ends units base first zero sides = omega arith
  length_ctus ends units base first (suc n) sides =
      omega (
        arith,
        length-append (ctu_with_flag (moving (move_unit kind source)) size ends units (base + first)) (flat_map (λ i. ctu_with_flag (moving (move_unit kind source)) size ends units (base + i)) (range_with_len (first + 1) n)),
        length_ctu ends units (base + first) sides,
        length_ctus ends units base (first + 1) n sides,
      )

  length_row : (units : List (List MoveLeaf)) (row : ℕ) → AllUnitsHaveSides units → ctus size.w ≤ 128 → length (items_of_row (moving (move_unit kind source)) size units row) ≤ 371200001
  unfolding items_of_row
  length_row units row sides few = go (row + 1 == ctus size.h)
    where
      list : List Item
      list = ctus_items (moving (move_unit kind source)) size (is_last size) units row (ctus size.w)

      many : length list ≤ ctus size.w * 2900000
      many = length_ctus (is_last size) units (row * ctus size.w) 0 (ctus size.w) sides

      go : (b : Bool) → length (list ++ cond b [] (terminate_bin true ∷ [])) ≤ 371200001
      go true = omega (arith, length-append list [], many)
      go false = omega (arith, length-append list (terminate_bin true ∷ []), many)

  length_segment : (units : List (List MoveLeaf)) (row : ℕ) → AllUnitsHaveSides units → ctus size.w ≤ 128 → length (items_of_segment (moving (move_unit kind source)) size units row) ≤ 371200001
  unfolding items_of_segment
  length_segment units row sides few =
      let many : length (ctus_items (moving (move_unit kind source)) size (ends_row size) units row (ctus size.w)) ≤ ctus size.w * 2900000 = length_ctus (ends_row size) units (row * ctus size.w) 0 (ctus size.w) sides in
      omega arith

  -- what stands in an entry point
  pub entry_fits : (units : List (List MoveLeaf)) (row : ℕ) (contexts : List ℕ) → AllUnitsHaveSides units → ctus size.w ≤ 128
      → length (escape (code (items_of_row (moving (move_unit kind source)) size units row) contexts)) < 2 ^ 32
  entry_fits units row contexts sides few =
      omega (arith, escape_length 255 255 (code (items_of_row (moving (move_unit kind source)) size units row) contexts), code_length (items_of_row (moving (move_unit kind source)) size units row) contexts, length_row units row sides few)

pub rows_are_substreams : EachUnitRowIsSubstream
rows_are_substreams kind size source units row is many are some narrow few =
    let sides : AllUnitsHaveSides units = lawful_sides kind size units (ctus size.w * ctus size.h) many are in
    let contexts : List ℕ = contexts_at kind (moving (move_unit kind source)) size units row in
    let slice : List Item = items_of_row (moving (move_unit kind source)) size units row in
    let segment : List Item = items_of_segment (moving (move_unit kind source)) size units row in (
      (ends_in _ (code_ends slice contexts (slice_form kind size source is units row sides some few)), omega (arith, code_length slice contexts, length_row kind size source is units row sides narrow)),
      (ends_in _ (code_ends segment contexts (segment_form kind size source is units row sides some)), omega (arith, code_length segment contexts, length_segment kind size source is units row sides narrow)),
    )
