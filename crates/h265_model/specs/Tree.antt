-- Coding tree units: their items, and their reading (7.3.8.1 to 7.3.8.10, 8.5.3, 9.3.1, 9.3.4.2.2).
use Rattle.std.specs.Prelude.{◌≡◌, ℕ, zero, suc, ◌+◌, ◌*◌, ◌%◌, ◌^◌, ◌<◌, Bool, true, false, not, ◌&&◌, ◌⊎◌, List, [], ◌∷◌, ◌++◌, length, map, get_or, take, drop, ◌==◌, nat_le, nat_lt, if◌then◌else◌, Option, Some, None, ℤ, pos, ◌-ℤ◌, MatchBool, flat_map}
use Rattle.std.specs.List.{flat_map, find, AllByRecursion}
use Rattle.std.specs.Bool.{beq}
use Rattle.h265_model.specs.declared.Place.{Place}
use Rattle.h265_model.specs.declared.Place.TheVariants.{Context, Terminate}
use Rattle.h265_model.specs.declared.Item.{Item}
use Rattle.h265_model.specs.declared.Item.TheVariants as items
use Rattle.h265_model.specs.declared.leaf.SliceKind.{SliceKind}
use Rattle.h265_model.specs.declared.leaf.SliceKind.TheVariants.{I, P}
use Rattle.h265_model.specs.declared.leaf.Kind.{Kind}
use Rattle.h265_model.specs.declared.leaf.Kind.TheVariants.{Skip, Pcm, Intra}
use Rattle.h265_model.specs.declared.leaf.Leaf.{Leaf}
use Rattle.h265_model.specs.declared.block.CodingBlock.{CodingBlock}
use Rattle.h265_model.specs.Plain.{Size, Picture, coded, ctus, below, context_bin, terminate_bin, joined, ctu_x, ctu_y, block_at, side, leaf_side, covers, leaf_with}
use Rattle.h265_model.specs.SyntaxElements.{split_cu_flag, cu_skip_flag, cbf_cb, cbf_cr, cu_transquant_bypass_flag, pred_mode_flag, part_mode, intra_chroma_pred_mode, cbf_luma, merge_flag, rqt_root_cbf}
use Rattle.h265_model.specs.Engine.{Reader, ◌>>=◌, give, refuse, bin, samples}
use Rattle.h265_model.specs.Residual.{Shape, scan_kind, cbf, residual_items, residual_read, AreLevels}
use Rattle.h265_model.specs.Modes.{candidates, mode_items, mode_read}
use Rattle.h265_model.specs.Predict.{is_inside, square, prediction}
use Rattle.h265_model.specs.Bits.{digit}
use Rattle.h265_model.specs.Code.{contexts_after}
use Rattle.h265_model.specs.declared.moves.Vector.{Vector}
use Rattle.h265_model.specs.declared.moves.MoveKind.{MoveKind}
use Rattle.h265_model.specs.declared.moves.MoveKind.TheVariants as moves
use Rattle.h265_model.specs.declared.moves.MoveLeaf.{MoveLeaf}
use Rattle.h265_model.specs.Motion.{Moving, leaves, leaf_as_coded, coded_after, merge, predictors, move_items, has_source, vector_read}

-- ---- leaves that are coded already

-- the coding unit that covers a place, of those coded already (6.4.1)
abbrev pub leaf_at : List Leaf → ℕ → ℕ → Option Leaf
leaf_at leaves x y = find (covers x y) leaves

-- the coding unit at (x - 1, y), where it is available (6.4.1)
abbrev pub left_of : List Leaf → ℕ → ℕ → Option Leaf
left_of leaves zero y = None
left_of leaves (suc x) y = leaf_at leaves x y

-- the coding unit at (x, y - 1), where it is available (6.4.1)
abbrev pub above : List Leaf → ℕ → ℕ → Option Leaf
above leaves x zero = None
above leaves x (suc y) = leaf_at leaves x y

-- there is a leaf, and it passes a test (plain)
abbrev pub passes : (Leaf → Bool) → Option Leaf → Bool
passes test None = false
passes test (Some leaf) = test leaf

-- condL && availableL plus condA && availableA (9.3.4.2.2)
abbrev pub how_many : (Leaf → Bool) → List Leaf → ℕ → ℕ → ℕ
how_many test leaves x y = digit (passes test (left_of leaves x y)) + digit (passes test (above leaves x y))

-- the context of split_cu_flag, by the neighbours whose CtDepth is greater than that of this block (9.3.4.2.2)
unfoldable pub split_context : List Leaf → CodingBlock → ℕ
split_context leaves block = split_cu_flag + how_many (λ leaf. nat_lt leaf.block.log2 block.log2) leaves block.x block.y

-- cu_skip_flag of a coding unit (7.4.9.5)
abbrev pub is_skipped : Kind → Bool
is_skipped Skip = true
is_skipped Pcm = false
is_skipped (Intra mode) = false

-- the context of cu_skip_flag, by the neighbours that are skipped (9.3.4.2.2)
unfoldable pub skip_context : List Leaf → ℕ → ℕ → ℕ
skip_context leaves x y = cu_skip_flag + how_many (λ leaf. is_skipped leaf.kind) leaves x y

-- candIntraPredModeX of a neighbour: DC where it has no mode (8.4.2)
abbrev pub mode_of : Kind → ℕ
mode_of Skip = 1
mode_of Pcm = 1
mode_of (Intra mode) = mode

-- candIntraPredModeX: DC where there is no neighbour (8.4.2)
abbrev pub candidate : Option Leaf → ℕ
candidate None = 1
candidate (Some leaf) = mode_of leaf.kind

-- candModeList at (x, y); the neighbour above counts only within the row of coding tree units (8.4.2)
unfoldable pub candidates_at : List Leaf → ℕ → ℕ → List ℕ
candidates_at leaves x y =
    candidates (candidate (left_of leaves x y)) (if y % 32 == 0 then 1 else candidate (above leaves x y))

-- ---- items

-- what is written of leaves: the levels (TransCoeffLevel, 7.3.8.11) and the samples (pcm_sample, 7.3.8.7) of each
-- leaf and component, in rows
pub record Source : Type 0 where
  pub levels : Leaf → ℕ → List ℤ
  pub samples : Leaf → ℕ → List ℕ

-- the transform block of a component under an intra mode, as large as the coding block (7.3.8.8, 7.4.9.11)
abbrev pub shape_of : ℕ → ℕ → ℕ → Shape
shape_of log2 mode component = record { component = component; log2 = log2; scan = scan_kind mode log2 }

-- residual_coding, where the coded block flag is 1 (7.3.8.10)
abbrev pub residual_if : ℕ → ℕ → ℕ → List ℤ → List Item
residual_if log2 mode component levels = if cbf levels then residual_items (shape_of log2 mode component) levels else []

-- coding_unit from pcm_flag on (7.3.8.5), with pcm_sample (7.3.8.7), and transform_tree and transform_unit without a
-- split (7.3.8.8, 7.3.8.10)
abbrev pub content_items : Source → List Leaf → Leaf → Kind → List Item
content_items source before leaf Skip = []
content_items source before leaf Pcm =
    terminate_bin true ∷ map items.Sample (source.samples leaf 0 ++ source.samples leaf 1 ++ source.samples leaf 2)
content_items source before leaf (Intra mode) =
    terminate_bin false
    ∷ (mode_items mode (candidates_at before leaf.block.x leaf.block.y)
    ++ (context_bin false intra_chroma_pred_mode
    ∷ context_bin (cbf (source.levels leaf 1)) cbf_cb
    ∷ context_bin (cbf (source.levels leaf 2)) cbf_cr
    ∷ context_bin (cbf (source.levels leaf 0)) cbf_luma
    ∷ (residual_if leaf.block.log2 mode 0 (source.levels leaf 0)
    ++ (residual_if leaf.block.log2 mode 1 (source.levels leaf 1)
    ++ residual_if leaf.block.log2 mode 2 (source.levels leaf 2)))))

-- items that P slices alone have (7.3.8.5)
abbrev pub in_P : SliceKind → List Item → List Item
in_P I list = []
in_P P list = list

-- coding_unit, where no blocks move (7.3.8.5)
unfoldable pub coding_unit_items : SliceKind → Source → List Leaf → Leaf → List Item
coding_unit_items kind source before leaf =
    (context_bin true cu_transquant_bypass_flag ∷ in_P kind (context_bin (is_skipped leaf.kind) (skip_context before leaf.block.x leaf.block.y) ∷ []))
    ++ (if is_skipped leaf.kind then []
    else in_P kind (context_bin true pred_mode_flag ∷ [])
    ++ ((if leaf.block.log2 == 3 then context_bin true part_mode ∷ [] else [])
    ++ content_items source before leaf leaf.kind))

-- ---- coding units that are written one after another

-- what is written of coding units (7.3.8.5), whatever is kept of them once they are coded: the block of a unit to
-- come, its items after the units before it, what is kept of these and then of more units, and the leaves that
-- contexts look at
pub record Units (Unit Kept : Type 0) : Type 0 where
  pub block : Unit → CodingBlock
  pub items : List Kept → Unit → List Item
  pub after : List Kept → List Unit → List Kept
  pub leaves : List Kept → List Leaf

-- the coding block of a leaf (7.3.8.5)
abbrev pub leaf_block : Leaf → CodingBlock
leaf_block leaf = leaf.block

-- leaves, of which nothing else is kept: units where no blocks move (7.3.8.5)
abbrev pub leaf_units : SliceKind → Source → Units Leaf Leaf
leaf_units kind source = record {
  block = leaf_block;
  items = coding_unit_items kind source;
  after = λ before units. before ++ units;
  leaves = λ before. before;
}

-- what is written of a unit after units with the vectors that are kept of them (7.3.8.5)
abbrev pub UnitItems : Type 0
UnitItems = List Moving → MoveLeaf → List Item

-- the coding block of a unit (7.3.8.5)
abbrev pub unit_block : MoveLeaf → CodingBlock
unit_block unit = unit.block

-- units with the vectors that are kept of them, by what is written of each (7.3.8.5, 8.5.3.2.1)
abbrev pub moving : UnitItems → Units MoveLeaf Moving
moving items = record { block = unit_block; items = items; after = coded_after; leaves = leaves }

-- coding_unit of a unit of a stream without moves, after units with vectors (7.3.8.5)
abbrev pub still_unit : SliceKind → Source → UnitItems
still_unit kind source before unit = coding_unit_items kind source (leaves before) (leaf_as_coded unit)

-- coding_unit of a moved unit in a P slice: cu_transquant_bypass_flag, cu_skip_flag 0, pred_mode_flag 0, part_mode,
-- prediction_unit (7.3.8.6) and rqt_root_cbf (7.3.8.5)
unfoldable pub moved_unit : List Moving → MoveLeaf → Vector → List Item
moved_unit before unit v =
    (context_bin true cu_transquant_bypass_flag
    ∷ context_bin false (skip_context (leaves before) unit.block.x unit.block.y)
    ∷ context_bin false pred_mode_flag
    ∷ context_bin true part_mode
    ∷ [])
    ++ move_items v (predictors before unit.block)

-- coding_unit by the kind of a unit (7.3.8.5)
abbrev pub unit_of_kind : SliceKind → Source → List Moving → MoveLeaf → MoveKind → List Item
unit_of_kind kind source before unit (moves.Move v) = moved_unit before unit v
unit_of_kind kind source before unit moves.Skip = still_unit kind source before unit
unit_of_kind kind source before unit moves.Pcm = still_unit kind source before unit
unit_of_kind kind source before unit (moves.Intra mode) = still_unit kind source before unit

-- coding_unit where blocks may move: all but moved units as without (7.3.8.5)
unfoldable pub move_unit : SliceKind → Source → UnitItems
move_unit kind source before unit = unit_of_kind kind source before unit unit.kind

-- ---- the walk of a tree

-- a part of a coding_quadtree as written: its items, what is kept of the units before and of those written, and the
-- units still to come (7.3.8.4)
pub record Walk (Unit Kept : Type 0) : Type 0 where
  pub list : List Item
  pub before : List Kept
  pub left : List Unit

-- items before a part of a coding_quadtree (7.3.8.4)
abbrev pub walk_on : {Unit Kept : Type 0} → List Item → Walk Unit Kept → Walk Unit Kept
walk_on list w = record { list = list ++ w.list; before = w.before; left = w.left }

-- one part of a coding_quadtree after another (7.3.8.4)
abbrev pub and_walk : {Unit Kept : Type 0} → Walk Unit Kept → (List Kept → List Unit → Walk Unit Kept) → Walk Unit Kept
and_walk w go = walk_on w.list (go w.before w.left)

-- the four coding_quadtree of a split in order, each of this side (7.3.8.4)
abbrev pub quarters : {Unit Kept : Type 0} → (ℕ → ℕ → List Kept → List Unit → Walk Unit Kept) → ℕ → ℕ → ℕ → List Kept → List Unit → Walk Unit Kept
quarters go half x y before left =
    and_walk (and_walk (and_walk (go x y before left) (go (x + half) y)) (go x (y + half))) (go (x + half) (y + half))

-- a coding_quadtree outside the coded picture, which isn't there (7.3.8.4)
abbrev pub no_walk : {Unit Kept : Type 0} → List Kept → List Unit → Walk Unit Kept
no_walk before left = record { list = []; before = before; left = left }

-- the next unit as a coding_unit (7.3.8.4)
abbrev pub coding_unit_walk : {Unit Kept : Type 0} → Units Unit Kept → List Kept → List Unit → Walk Unit Kept
coding_unit_walk units before [] = no_walk before []
coding_unit_walk units before (unit ∷ left) =
    record { list = units.items before unit; before = units.after before (unit ∷ []); left = left }

-- a block lies wholly in the coded picture, so that split_cu_flag is coded (7.3.8.4)
abbrev pub is_whole : Size → ℕ → ℕ → ℕ → Bool
is_whole size side x y = nat_le (x + side) (coded size.w) && nat_le (y + side) (coded size.h)

-- the next unit has the side 2 ^ log2, so that split_cu_flag is 0 (7.4.9.4)
abbrev pub is_next : {Unit : Type 0} → (Unit → CodingBlock) → ℕ → List Unit → Bool
is_next block log2 [] = false
is_next block log2 (unit ∷ left) = (block unit).log2 == log2

-- coding_quadtree: the block of side 2 ^ (3 + depth) at (x, y), of the units that come next (7.3.8.4)
abbrev pub tree_walk : {Unit Kept : Type 0} → Units Unit Kept → Size → ℕ → ℕ → ℕ → List Kept → List Unit → Walk Unit Kept
tree_walk {Unit} {Kept} units size zero x y before left =
    let unit : Walk Unit Kept = coding_unit_walk units before left in
    if is_inside size x y then unit else no_walk before left
tree_walk {Unit} {Kept} units size (suc depth) x y before left =
    let half : ℕ = 2 ^ (3 + depth) in
    let split : Walk Unit Kept = quarters (tree_walk units size depth) half x y before left in
    let flag : ℕ = split_context (units.leaves before) (block_at x y (4 + depth)) in
    let whole : Walk Unit Kept = walk_on (context_bin false flag ∷ []) (coding_unit_walk units before left) in
    let flagged : Walk Unit Kept = walk_on (context_bin true flag ∷ []) split in
    if not (is_inside size x y) then no_walk before left
    else if not (is_whole size (2 * half) x y) then split
    else if is_next units.block (4 + depth) left then whole
    else flagged

-- coding_tree_unit: the items of one (7.3.8.2)
unfoldable pub ctu_items : {Unit Kept : Type 0} → Units Unit Kept → Size → List Kept → List Unit → ℕ → List Item
ctu_items units size before list ctu = (tree_walk units size 2 (ctu_x size ctu) (ctu_y size ctu) before list).list

-- the samples that a picture has in a leaf: pcm_sample (7.4.9.7)
abbrev pub samples_in : Picture → Leaf → ℕ → List ℕ
samples_in picture leaf component = square (leaf_side leaf) (λ x y. picture component (leaf.block.x + x) (leaf.block.y + y))

-- samples less predicted samples: resSamples (8.6.7)
abbrev pub differences : List ℕ → List ℕ → List ℤ
differences [] bs = []
differences (a ∷ as_) [] = []
differences (a ∷ as_) (b ∷ bs) = (pos a -ℤ pos b) ∷ differences as_ bs

-- the levels that a picture gives of a leaf: resSamples, as cu_transquant_bypass_flag is 1 (8.6.2)
abbrev pub levels_in : Size → Picture → Leaf → ℕ → List ℤ
levels_in size picture leaf component =
    differences (samples_in picture leaf component) (prediction size picture (mode_of leaf.kind) component leaf.block)

-- what a picture gives of a leaf: samples, and samples less prediction (7.4.9.7, 8.6.2)
unfoldable pub source_of : Size → Picture → Source
source_of size picture = record { levels = levels_in size picture; samples = samples_in picture }

-- ---- the items of a row (7.3.8.1), with the units of each coding tree unit of the picture

-- end_of_slice_segment_flag, which is 1 after the last coding tree unit of the picture, where that is one segment
-- (7.4.9.1)
abbrev pub is_last : Size → ℕ → Bool
is_last size ctu = ctu + 1 == ctus size.w * ctus size.h

-- end_of_slice_segment_flag, which is 1 after the last coding tree unit of a row, where each row is a segment
-- (7.4.9.1)
abbrev pub ends_row : Size → ℕ → Bool
ends_row size ctu = (ctu + 1) % ctus size.w == 0

-- a coding tree unit with its end_of_slice_segment_flag (7.3.8.1)
abbrev pub ctu_with_flag : {Unit Kept : Type 0} → Units Unit Kept → Size → (ℕ → Bool) → List (List Unit) → ℕ → List Item
ctu_with_flag units size ends lists ctu =
    ctu_items units size (units.after [] (joined (take ctu lists))) (get_or lists ctu []) ctu ++ terminate_bin (ends ctu) ∷ []

-- the first n coding tree units of a row (7.3.8.1)
abbrev pub ctus_items : {Unit Kept : Type 0} → Units Unit Kept → Size → (ℕ → Bool) → List (List Unit) → ℕ → ℕ → List Item
ctus_items units size ends lists row n =
    flat_map (λ i. ctu_with_flag units size ends lists (row * ctus size.w + i)) (below n)

-- slice_segment_data, a row of it where the slice is one segment: end_of_subset_one_bit ends each row but the last
-- (7.3.8.1)
unfoldable pub items_of_row : {Unit Kept : Type 0} → Units Unit Kept → Size → List (List Unit) → ℕ → List Item
items_of_row units size lists row =
    ctus_items units size (is_last size) lists row (ctus size.w)
    ++ (if row + 1 == ctus size.h then [] else terminate_bin true ∷ [])

-- slice_segment_data of a row that is a segment (7.3.8.1)
unfoldable pub items_of_segment : {Unit Kept : Type 0} → Units Unit Kept → Size → List (List Unit) → ℕ → List Item
items_of_segment units size lists row = ctus_items units size (ends_row size) lists row (ctus size.w)

-- slice_segment_data, a row of it, of these leaves of a picture where no blocks move (7.3.8.1)
abbrev pub row_items : SliceKind → Size → Picture → List (List Leaf) → ℕ → List Item
row_items kind size picture leaves row = items_of_row (leaf_units kind (source_of size picture)) size leaves row

-- the units of the first n coding tree units, coded (7.3.8.1)
abbrev pub coded_first : List (List MoveLeaf) → ℕ → List Moving
coded_first units n = coded_after [] (joined (take n units))

-- ---- lawful trees (7.3.8.4)

-- a coding unit has one of the 35 modes, where it has a mode (8.4.2)
abbrev pub IsMode : Kind → Type 0
IsMode Skip = Unit {0}
IsMode Pcm = Unit {0}
IsMode (Intra mode) = mode < 35

-- these leaves are one coding unit of this block (7.3.8.5)
pub record IsCodingUnit (block : CodingBlock) (leaves : List Leaf) : Type 0 where
  pub kind : Kind
  pub one : leaves ≡ leaf_with block kind ∷ []
  pub mode : IsMode kind

-- these leaves are those of the four parts of a block (7.3.8.4)
pub record AreQuarters (Tree : ℕ → ℕ → List Leaf → Type 0) (half x y : ℕ) (leaves : List Leaf) : Type 0 where
  pub first : List Leaf
  pub second : List Leaf
  pub third : List Leaf
  pub fourth : List Leaf
  pub together : leaves ≡ first ++ second ++ third ++ fourth
  pub top_left : Tree x y first
  pub top_right : Tree (x + half) y second
  pub bottom_left : Tree x (y + half) third
  pub bottom_right : Tree (x + half) (y + half) fourth

-- these are the leaves of a block of side 2 ^ (3 + depth) at (x, y), in the order of coding (7.3.8.4)
abbrev pub IsTree : Size → ℕ → ℕ → ℕ → List Leaf → Type 0
IsTree size zero x y leaves = MatchBool (is_inside size x y) (IsCodingUnit (block_at x y 3) leaves) (leaves ≡ [])
IsTree size (suc depth) x y leaves =
    let half : ℕ = 2 ^ (3 + depth) in
    MatchBool (is_inside size x y)
    (MatchBool (is_whole size (2 * half) x y)
    (IsCodingUnit (block_at x y (4 + depth)) leaves ⊎ AreQuarters (IsTree size depth) half x y leaves)
    (AreQuarters (IsTree size depth) half x y leaves))
    (leaves ≡ [])

-- these are the leaves of a coding tree unit, in the order of coding (7.3.8.2, 7.3.8.4)
abbrev pub IsLawfulTree : Size → ℕ → List Leaf → Type 0
IsLawfulTree size ctu leaves = IsTree size 2 (ctu_x size ctu) (ctu_y size ctu) leaves

-- ---- reading

-- the parsing of a bin that must have this value (9.3.4.3.1), and then of what follows
abbrev pub expect : {A : Type 0} → Place → Bool → Reader A → Reader A
expect place value read = do
  b ← bin place
  if beq b value then read else refuse

-- a list cut in three parts of n members (plain)
abbrev pub thirds : ℕ → List ℕ → List (List ℕ)
thirds n list = take n list ∷ take n (drop n list) ∷ take n (drop (n + n) list) ∷ []

-- the parsing of residual_coding of a component, where its coded block flag is 1: its levels in rows (7.3.8.10)
abbrev pub component_read : ℕ → ℕ → ℕ → Bool → Reader (List ℤ)
component_read log2 mode component coded =
    if coded then residual_read (shape_of log2 mode component) else give (square (2 ^ log2) (λ x y. pos 0))

-- the parsing of cu_skip_flag, which I slices haven't (7.3.8.5)
abbrev pub skip_read : SliceKind → List Leaf → ℕ → ℕ → Reader Bool
skip_read I before x y = give false
skip_read P before x y = bin (Context (skip_context before x y))

-- the context variables as they are, for the storage process (9.3.2.3)
abbrev pub contexts_read : Reader (List ℕ)
contexts_read e = Some (e.contexts, e)

-- what is read of a coding unit: that it is a copy, by the merge vector or by its own, or its samples, or a mode and
-- the levels, by component (7.3.8.5)
pub data Content : Type 0 where
  Copied : Vector → Content
  Moved : Vector → Content
  Samples : List (List ℕ) → Content
  Levels : ℕ → List (List ℤ) → Content

-- a coding unit that was read: its coding block, and what is read of it (7.3.8.5)
pub record ReadUnit : Type 0 where
  pub block : CodingBlock
  pub content : Content

-- what a unit that was read counts as for splits, skips and candidates; a moved one counts as PCM does (9.3.4.2.2,
-- 8.4.2)
abbrev pub kind_of : Content → Kind
kind_of (Copied v) = Skip
kind_of (Moved v) = Pcm
kind_of (Samples planes) = Pcm
kind_of (Levels mode planes) = Intra mode

-- the vector by which a unit that was read is copied, if it is (8.5.3.2.1)
abbrev pub vector_of : Content → Option Vector
vector_of (Copied v) = Some v
vector_of (Moved v) = Some v
vector_of (Samples planes) = None
vector_of (Levels mode planes) = None

-- a unit that was read, as splits, skips and candidates look at it (9.3.4.2.2, 8.4.2)
abbrev pub leaf_of : ReadUnit → Leaf
leaf_of unit = leaf_with unit.block (kind_of unit.content)

-- a unit that was read, with its vector (8.5.3.2.1)
abbrev pub moving_of : ReadUnit → Moving
moving_of unit = record { leaf = leaf_of unit; vector = vector_of unit.content }

-- the units before, and then these that were read (7.3.8.4)
abbrev pub units_after : List Moving → List ReadUnit → List Moving
units_after before read = before ++ map moving_of read

-- the parsing of coding_unit after pcm_flag (7.3.8.5) and of transform_unit without a split (7.3.8.8, 7.3.8.10):
-- intra_chroma_pred_mode, which chooses the luma mode (8.4.3), cbf_cb, cbf_cr, cbf_luma and the residuals
abbrev pub intra_read : List Moving → CodingBlock → Reader Content
intra_read before block = do
  mode ← mode_read (candidates_at (leaves before) block.x block.y)
  expect (Context intra_chroma_pred_mode) false (do
    cb ← bin (Context cbf_cb)
    cr ← bin (Context cbf_cr)
    luma ← bin (Context cbf_luma)
    first ← component_read block.log2 mode 0 luma
    second ← component_read block.log2 mode 1 cb
    third ← component_read block.log2 mode 2 cr
    give (Levels mode (first ∷ second ∷ third ∷ [])))

-- the parsing of pcm_sample: the samples by component (7.3.8.7)
abbrev pub pcm_read : ℕ → Reader Content
pcm_read n = do
  list ← samples (n + n + n)
  give (Samples (thirds n list))

-- the parsing of pcm_flag, and of what follows (7.3.8.5)
abbrev pub content_read : List Moving → CodingBlock → Reader Content
content_read before block = do
  pcm ← bin Terminate
  if pcm then pcm_read (side block * side block) else intra_read before block

-- the parsing of part_mode, which an intra unit has at side 8 alone (7.3.8.5), and of what follows
abbrev pub own_read : List Moving → CodingBlock → Reader Content
own_read before block = if block.log2 == 3 then expect (Context part_mode) true (content_read before block) else content_read before block

-- the parsing of a moved unit: part_mode at each side (PART_2Nx2N), merge_flag 0, the vector, and rqt_root_cbf 0
-- (7.3.8.5, 7.3.8.6)
abbrev pub move_read : List Moving → CodingBlock → Reader Content
move_read before block = expect (Context part_mode) true (expect (Context merge_flag) false (do
  v ← vector_read (predictors before block)
  expect (Context rqt_root_cbf) false (give (Moved v))))

-- the parsing of pred_mode_flag, which P slices have (7.3.8.5), and of what follows
abbrev pub coded_read : SliceKind → List Moving → CodingBlock → Reader Content
coded_read I before block = own_read before block
coded_read P before block = do
  intra ← bin (Context pred_mode_flag)
  if intra then own_read before block else move_read before block

-- a rule of this project's own: a copy needs its source in the coded picture (8.5.3.3.3.1)
abbrev pub is_in_picture : Size → CodingBlock → Option Vector → Bool
is_in_picture size block None = true
is_in_picture size block (Some v) = has_source size block v

-- a coding unit that was read, with its source in the coded picture, a rule of this project's own (7.3.8.5)
abbrev pub unit_with : Size → CodingBlock → Content → Reader (List ReadUnit)
unit_with size block content =
    if is_in_picture size block (vector_of content) then give (record { block = block; content = content } ∷ []) else refuse

-- the parsing of coding_unit: cu_transquant_bypass_flag, cu_skip_flag, and what follows (7.3.8.5)
unfoldable pub coding_unit_read : SliceKind → Size → List Moving → CodingBlock → Reader (List ReadUnit)
coding_unit_read kind size before block = expect (Context cu_transquant_bypass_flag) true (do
  skipped ← skip_read kind (leaves before) block.x block.y
  content ← if skipped then give (Copied (merge before block)) else coded_read kind before block
  unit_with size block content)

-- the parsing of the four coding_quadtree of a split in order, each of this side (7.3.8.4)
abbrev pub quarters_read : (ℕ → ℕ → List Moving → Reader (List ReadUnit)) → ℕ → ℕ → ℕ → List Moving → Reader (List ReadUnit)
quarters_read go half x y before = do
  first ← go x y before
  second ← go (x + half) y (units_after before first)
  third ← go x (y + half) (units_after before (first ++ second))
  fourth ← go (x + half) (y + half) (units_after before (first ++ second ++ third))
  give (first ++ second ++ third ++ fourth)

-- the parsing of coding_quadtree: the block of side 2 ^ (3 + depth) at (x, y), after these units (7.3.8.4)
abbrev pub tree_read : SliceKind → Size → ℕ → ℕ → ℕ → List Moving → Reader (List ReadUnit)
tree_read kind size zero x y before = if is_inside size x y then coding_unit_read kind size before (block_at x y 3) else give []
tree_read kind size (suc depth) x y before =
    let half : ℕ = 2 ^ (3 + depth) in
    let split : Reader (List ReadUnit) = quarters_read (tree_read kind size depth) half x y before in
    if not (is_inside size x y) then give []
    else if not (is_whole size (2 * half) x y) then split
    else (bin (Context (split_context (leaves before) (block_at x y (4 + depth)))) >>= λ flag.
    if flag then split else coding_unit_read kind size before (block_at x y (4 + depth)))

-- the parsing of coding_tree_unit (7.3.8.2)
unfoldable pub ctu_read : SliceKind → Size → List Moving → ℕ → Reader (List ReadUnit)
ctu_read kind size before ctu = tree_read kind size 2 (ctu_x size ctu) (ctu_y size ctu) before

-- the units of a coding tree unit that was read (7.3.8.2), and the contexts after it (9.3.2.3)
pub record ReadCtu : Type 0 where
  pub units : List ReadUnit
  pub contexts : List ℕ

-- the units of these coding tree units (7.3.8.2)
abbrev pub units_of : List ReadCtu → List ReadUnit
units_of ctus = flat_map (λ (ctu : ReadCtu). ctu.units) ctus

-- the parsing of n coding tree units from this one on, each with its end_of_slice_segment_flag, which is 1 at the
-- ends (7.3.8.1)
abbrev pub ctus_read : SliceKind → Size → (ℕ → Bool) → ℕ → ℕ → List Moving → Reader (List ReadCtu)
ctus_read kind size ends zero ctu before = give []
ctus_read kind size ends (suc n) ctu before = do
  units ← ctu_read kind size before ctu
  contexts ← contexts_read
  expect Terminate (ends ctu) (do
    others ← ctus_read kind size ends n (suc ctu) (units_after before units)
    give (record { units = units; contexts = contexts } ∷ others))

-- ---- what is written and read back

-- what a source may give of a leaf: levels (7.3.8.11) and samples (7.3.8.7) of all its places
pub record IsSource (source : Source) : Type 0 where
  pub levels_long : (leaf : Leaf) (component : ℕ) → length (source.levels leaf component) ≡ leaf_side leaf * leaf_side leaf
  pub levels_fit : (leaf : Leaf) (component : ℕ) → AreLevels (source.levels leaf component)
  pub samples_long : (leaf : Leaf) (component : ℕ) → length (source.samples leaf component) ≡ leaf_side leaf * leaf_side leaf
  pub samples_fit : (leaf : Leaf) (component : ℕ) → AllByRecursion (λ x. x < 256) (source.samples leaf component)

-- leaves with modes (8.4.2)
abbrev pub AreModes : List Leaf → Type 0
AreModes leaves = AllByRecursion (λ leaf. IsMode leaf.kind) leaves

-- an I slice has no skips (7.3.8.5)
abbrev pub IsAllowed : SliceKind → Kind → Type 0
IsAllowed I k = is_skipped k ≡ false
IsAllowed P k = Unit {0}

-- leaves of kinds that the slice may have (7.3.8.5)
abbrev pub AreAllowed : SliceKind → List Leaf → Type 0
AreAllowed kind leaves = AllByRecursion (λ leaf. IsAllowed kind leaf.kind) leaves

-- what a picture's leaves have to be (7.3.8.1, 7.3.8.4)
pub record AreLawfulTrees (kind : SliceKind) (size : Size) (leaves : List (List Leaf)) (total : ℕ) : Type 0 where
  pub tree : (ctu : ℕ) → ctu < total → IsLawfulTree size ctu (get_or leaves ctu [])
  pub allowed : (ctu : ℕ) → ctu < total → AreAllowed kind (get_or leaves ctu [])

-- a leaf that is skipped is copied of a block that is the same, as a copy by no motion is (8.5.3.3.3.1)
abbrev pub IsCopy : Picture → Picture → Leaf → Type 0
IsCopy prev now leaf = leaf.kind ≡ Skip → (component : ℕ) → component < 3 → samples_in prev leaf component ≡ samples_in now leaf component
