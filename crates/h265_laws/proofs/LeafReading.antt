-- A reader of leaves without vectors: a step between the items of leaves and the readers of coding units, which read what it reads. Its clauses are those of `Tree`.
use Rattle.std.specs.Prelude.{◌≤◌, ℕ, zero, suc, ◌+◌, ◌*◌, ◌^◌, true, false, not, List, [], ◌∷◌, ◌++◌, map, get_or, take, ◌==◌, if◌then◌else◌, ℤ}
use Rattle.h265_model.specs.declared.Place.TheVariants.{Context, Terminate}
use Rattle.h265_model.specs.declared.leaf.SliceKind.{SliceKind}
use Rattle.h265_model.specs.declared.leaf.SliceKind.TheVariants.{I, P}
use Rattle.h265_model.specs.declared.leaf.Kind.{Kind}
use Rattle.h265_model.specs.declared.leaf.Kind.TheVariants.{Skip, Pcm, Intra}
use Rattle.h265_model.specs.declared.leaf.Leaf.{Leaf}
use Rattle.h265_model.specs.declared.block.CodingBlock.{CodingBlock}
use Rattle.h265_model.specs.Plain.{block_at, side, Size, ctus, joined, ctu_x, ctu_y}
use Rattle.h265_model.specs.SyntaxElements.{cbf_cb, cbf_cr, cu_transquant_bypass_flag, pred_mode_flag, part_mode, intra_chroma_pred_mode, cbf_luma}
use Rattle.h265_model.specs.Engine.{Reader, ◌>>=◌, give, bin, samples}
use Rattle.h265_model.specs.Modes.{mode_read}
use Rattle.h265_model.specs.Predict.{is_inside}
use Rattle.h265_model.specs.Code.{contexts_after}
use Rattle.h265_model.specs.Raster.{planes}
use Rattle.h265_model.specs.Tree.{leaf_units, Source, ctu_items, is_whole, is_last, split_context, candidates_at, expect, thirds, component_read, skip_read, contexts_read}
use Rattle.h265_model.specs.Engine.{Reads, ReadsWith}
use Rattle.h265_model.specs.Residual.{IsSide}
use Rattle.h265_model.specs.Plain.{leaf_with}
use Rattle.h265_model.specs.Tree.{IsSource, AreModes, IsMode, IsAllowed, AreAllowed, IsLawfulTree, AreLawfulTrees, coding_unit_items, items_of_row}

-- what is read of a coding unit: that it is a copy, or its samples, or a mode and the levels, by component
pub data Content : Type 0 where
  Copied : Content
  Samples : List (List ℕ) → Content
  Levels : ℕ → List (List ℤ) → Content

pub record ReadLeaf : Type 0 where
  pub block : CodingBlock
  pub content : Content

abbrev pub kind_of : Content → Kind
kind_of Copied = Skip
kind_of (Samples planes) = Pcm
kind_of (Levels mode planes) = Intra mode

abbrev pub leaf_of : ReadLeaf → Leaf
leaf_of read = record { block = read.block; kind = kind_of read.content }

abbrev pub intra_read : List Leaf → CodingBlock → Reader Content
intra_read before block = do
  mode ← mode_read (candidates_at before block.x block.y)
  expect (Context intra_chroma_pred_mode) false (do
    cb ← bin (Context cbf_cb)
    cr ← bin (Context cbf_cr)
    luma ← bin (Context cbf_luma)
    first ← component_read block.log2 mode 0 luma
    second ← component_read block.log2 mode 1 cb
    third ← component_read block.log2 mode 2 cr
    give (Levels mode (first ∷ second ∷ third ∷ [])))

abbrev pub pcm_read : ℕ → Reader Content
pcm_read n = do
  list ← samples (n + n + n)
  give (Samples (thirds n list))

abbrev pub content_read : List Leaf → CodingBlock → Reader Content
content_read before block = do
  pcm ← bin Terminate
  if pcm then pcm_read (side block * side block) else intra_read before block

abbrev pub part_mode_read : ℕ → Reader Content → Reader Content
part_mode_read log2 read = if log2 == 3 then expect (Context part_mode) true read else read

abbrev pub coded_read : SliceKind → List Leaf → CodingBlock → Reader Content
coded_read I before block = part_mode_read block.log2 (content_read before block)
coded_read P before block = expect (Context pred_mode_flag) true (part_mode_read block.log2 (content_read before block))

-- 7.3.8.5
unfoldable pub coding_unit_read : SliceKind → List Leaf → CodingBlock → Reader (List ReadLeaf)
coding_unit_read kind before block = expect (Context cu_transquant_bypass_flag) true (do
  skipped ← skip_read kind before block.x block.y
  content ← if skipped then give Copied else coded_read kind before block
  give (record { block = block; content = content } ∷ []))

abbrev pub leaves_after : List Leaf → List ReadLeaf → List Leaf
leaves_after before read = before ++ map leaf_of read

abbrev pub quarters_read : (ℕ → ℕ → List Leaf → Reader (List ReadLeaf)) → ℕ → ℕ → ℕ → List Leaf → Reader (List ReadLeaf)
quarters_read go half x y before = do
  first ← go x y before
  second ← go (x + half) y (leaves_after before first)
  third ← go x (y + half) (leaves_after before (first ++ second))
  fourth ← go (x + half) (y + half) (leaves_after before (first ++ second ++ third))
  give (first ++ second ++ third ++ fourth)

-- 7.3.8.4: the block of side 2 ^ (3 + depth) at (x, y), after these leaves
abbrev pub tree_read : SliceKind → Size → ℕ → ℕ → ℕ → List Leaf → Reader (List ReadLeaf)
tree_read kind size zero x y before = if is_inside size x y then coding_unit_read kind before (block_at x y 3) else give []
tree_read kind size (suc depth) x y before =
    let half : ℕ = 2 ^ (3 + depth) in
    let split : Reader (List ReadLeaf) = quarters_read (tree_read kind size depth) half x y before in
    if not (is_inside size x y) then give []
    else if not (is_whole size (2 * half) x y) then split
    else (bin (Context (split_context before (block_at x y (4 + depth)))) >>= λ flag. if flag then split else coding_unit_read kind before (block_at x y (4 + depth)))

-- 7.3.8.2
unfoldable pub ctu_read : SliceKind → Size → List Leaf → ℕ → Reader (List ReadLeaf)
ctu_read kind size before ctu = tree_read kind size 2 (ctu_x size ctu) (ctu_y size ctu) before

-- the leaves of a coding tree unit, and the contexts after it
pub record ReadCtu : Type 0 where
  pub leaves : List ReadLeaf
  pub contexts : List ℕ

-- n coding tree units from this one on, each with its end_of_slice_segment_flag
abbrev pub ctus_read : SliceKind → Size → ℕ → ℕ → List Leaf → Reader (List ReadCtu)
ctus_read kind size zero ctu before = give []
ctus_read kind size (suc n) ctu before = do
  leaves ← ctu_read kind size before ctu
  contexts ← contexts_read
  expect Terminate (is_last size ctu) (do
    others ← ctus_read kind size n (suc ctu) (leaves_after before leaves)
    give (record { leaves = leaves; contexts = contexts } ∷ others))

-- 7.3.8.1: a row, after the leaves of the coding tree units of the rows above
unfoldable pub read_row : SliceKind → Size → ℕ → List (List Leaf) → Reader (List ReadCtu)
read_row kind size row above_leaves = do
  read ← ctus_read kind size (ctus size.w) (row * ctus size.w) (joined above_leaves)
  if row + 1 == ctus size.h then give read else expect Terminate true (give read)

-- what is read of a leaf
abbrev pub content_of : Source → Leaf → Kind → Content
content_of source leaf Skip = Copied
content_of source leaf Pcm = Samples (source.samples leaf 0 ∷ source.samples leaf 1 ∷ source.samples leaf 2 ∷ [])
content_of source leaf (Intra mode) = Levels mode (source.levels leaf 0 ∷ source.levels leaf 1 ∷ source.levels leaf 2 ∷ [])

abbrev pub read_of : Source → Leaf → ReadLeaf
read_of source leaf = record { block = leaf.block; content = content_of source leaf leaf.kind }

abbrev pub reads_of : Source → List Leaf → List ReadLeaf
reads_of source leaves = map (read_of source) leaves

-- what is read of n coding tree units from this one on, after these contexts
abbrev pub values_from : SliceKind → Size → Source → List (List Leaf) → ℕ → ℕ → List ℕ → List ReadCtu
values_from kind size source leaves ctu zero c = []
values_from kind size source leaves ctu (suc n) c =
    let after_ctu : List ℕ = contexts_after (ctu_items (leaf_units kind source) size (joined (take ctu leaves)) (get_or leaves ctu []) ctu) c in
    record { leaves = reads_of source (get_or leaves ctu []); contexts = after_ctu } ∷ values_from kind size source leaves (suc ctu) n after_ctu

-- ---- what is written is read

-- a coding unit (7.3.8.5)
abbrev pub EachLeafIsRead : Type 0
EachLeafIsRead =
    (kind : SliceKind) (source : Source) (before : List Leaf) (x y log2 : ℕ) (k : Kind) → IsSide log2 → IsSource source → AreModes before → IsMode k → IsAllowed kind k →
    Reads (coding_unit_read kind before (block_at x y log2)) (coding_unit_items kind source before (leaf_with (block_at x y log2) k)) (reads_of source (leaf_with (block_at x y log2) k ∷ []))

-- a coding tree unit (7.3.8.2, 7.3.8.4)
abbrev pub EachTreeIsRead : Type 0
EachTreeIsRead =
    (kind : SliceKind) (size : Size) (source : Source) (ctu : ℕ) (before leaves : List Leaf) → IsSource source → IsLawfulTree size ctu leaves → AreModes before → AreAllowed kind leaves →
    Reads (ctu_read kind size before ctu) (ctu_items (leaf_units kind source) size before leaves ctu) (reads_of source leaves)

-- a row of coding tree units, with the contexts after each (7.3.8.1)
abbrev pub EachRowIsRead : Type 0
EachRowIsRead =
    (kind : SliceKind) (size : Size) (source : Source) (leaves : List (List Leaf)) (row total : ℕ) →
    row * ctus size.w + ctus size.w ≤ total → AreLawfulTrees kind size leaves total → IsSource source →
    ReadsWith (read_row kind size row (take (row * ctus size.w) leaves)) (items_of_row (leaf_units kind source) size leaves row)
    (values_from kind size source leaves (row * ctus size.w) (ctus size.w))
