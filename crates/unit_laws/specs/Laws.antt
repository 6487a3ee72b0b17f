-- Laws over the definitions of coding units where blocks may move: what is written is read back.
use Rattle.std.specs.Prelude.{◌≡◌, true, false, nat_abs, ◌≤◌, ◌<◌, ◌-◌, ℕ, zero, suc, ◌+◌, ◌*◌, ◌^◌, ◌⊎◌, MatchBool, List, [], ◌∷◌, ◌++◌, map, IfSome, get_or, length, slice_index}
use Rattle.std.specs.List.{AllByRecursion}
use Rattle.h265_model.specs.declared.Place.TheVariants.{Context}
use Rattle.h265_model.specs.declared.moves.Vector.{Vector}
use Rattle.h265_model.specs.Plain.{block_at, Size, Picture, IsPicture, ctus, joined, ctu_x, ctu_y}
use Rattle.h265_model.specs.Engine.{Reads, ReadsWith, ◌>>=◌, give}
use Rattle.h265_model.specs.Tree.{moving, leaf_units, expect, Source, IsSource, source_of, samples_in, AreModes, is_whole, ctu_items}
use Rattle.h265_model.specs.Predict.{is_inside}
use Rattle.h265_model.specs.Residual.{IsSide}
use Rattle.h265_model.specs.Tree.{Content, Copied, Moved, Samples, Levels, ReadUnit, ReadCtu, coding_unit_read, ctu_read}
use Rattle.h265_model.specs.Motion.{Moving, leaves, leaf_as_coded, as_coded, merge, has_source, move_items, vector_read, still}
use Rattle.h265_model.specs.declared.moves.MoveLeaf.{MoveLeaf}
use Rattle.h265_model.specs.declared.moves.MoveKind.{MoveKind}
use Rattle.h265_model.specs.declared.moves.MoveKind.TheVariants as moves
use Rattle.h265_model.specs.declared.leaf.SliceKind.TheVariants.{I, P}
use Rattle.h265_model.specs.declared.leaf.SliceKind.{SliceKind}
use Rattle.h265_model.specs.declared.leaf.Leaf.{Leaf}
use Rattle.h265_model.specs.Slice.{segment_code, row_code}
use Rattle.h265_model.specs.Code.{contexts_after, IsWellFormed}
use Rattle.h265_model.specs.Raster.{planes}
use Rattle.h265_model.specs.Rebuild.{moved_samples, rebuild}
use Rattle.h265_model.specs.Slice.{slice_row_read, segment_row_read}
use Rattle.h265_model.specs.Tree.{UnitItems, coded_first, items_of_row, items_of_segment, still_unit, move_unit}
use Rattle.h265_model.specs.declared.block.CodingBlock.{CodingBlock}

-- ---- vectors

-- a vector of at most 4095 samples each way
pub record IsShort (v : Vector) : Type 0 where
  pub x : nat_abs v.x ≤ 4095
  pub y : nat_abs v.y ≤ 4095

-- what is written of a vector with its predictors is read (7.3.8.6, 7.3.8.9)
abbrev pub EachVectorIsRead : Type 0
EachVectorIsRead =
    (v : Vector) (both : Vector × Vector) → IsShort v → IsShort both.0 → IsShort both.1 →
    Reads (expect (Context 125) false (vector_read both >>= λ w. expect (Context 129) false (give w))) (move_items v both) v

-- ---- coding units

-- units whose vectors are short
abbrev pub AreShort : List Moving → Type 0
AreShort units = AllByRecursion (λ unit. IfSome unit.vector IsShort) units

-- what a unit of this kind needs to be read: no copy in an I slice, its source in the picture, a short vector, a mode
abbrev pub CanStand : SliceKind → Size → List Moving → CodingBlock → MoveKind → Type 0
CanStand I size before block moves.Skip = ⊥
CanStand P size before block moves.Skip = has_source size block (merge before block) ≡ true
CanStand I size before block (moves.Move v) = ⊥
CanStand P size before block (moves.Move v) = IsShort v × (has_source size block v ≡ true)
CanStand kind size before block moves.Pcm = Unit {0}
CanStand kind size before block (moves.Intra mode) = mode < 35

-- what is read of a unit
abbrev pub unit_content : Source → List Moving → MoveLeaf → MoveKind → Content
unit_content source before unit moves.Skip = Copied (merge before unit.block)
unit_content source before unit (moves.Move v) = Moved v
unit_content source before unit moves.Pcm =
    let leaf : Leaf = leaf_as_coded unit in
    Samples (source.samples leaf 0 ∷ source.samples leaf 1 ∷ source.samples leaf 2 ∷ [])
unit_content source before unit (moves.Intra mode) =
    let leaf : Leaf = leaf_as_coded unit in
    Levels mode (source.levels leaf 0 ∷ source.levels leaf 1 ∷ source.levels leaf 2 ∷ [])

-- a coding unit where blocks may move (7.3.8.5)
abbrev pub EachUnitIsRead : Type 0
EachUnitIsRead =
    (kind : SliceKind) (size : Size) (source : Source) (before : List Moving) (x y log2 : ℕ) (k : MoveKind) → IsSide log2 → IsSource source →
    AreModes (leaves before) → AreShort before → CanStand kind size before (block_at x y log2) k →
    Reads (coding_unit_read kind size before (block_at x y log2)) (move_unit kind source before (record { block = block_at x y log2; kind = k }))
    (record { block = block_at x y log2; content = unit_content source before (record { block = block_at x y log2; kind = k }) k } ∷ [])

-- ---- coding tree units

-- each unit can stand after those before it
abbrev pub CanStandAll : SliceKind → Size → List Moving → List MoveLeaf → Type 0
CanStandAll kind size before [] = Unit {0}
CanStandAll kind size before (unit ∷ units) =
    CanStand kind size before unit.block unit.kind × CanStandAll kind size (before ++ as_coded before unit ∷ []) units

-- what is read of some units after those before
abbrev pub reads_after : Source → List Moving → List MoveLeaf → List ReadUnit
reads_after source before [] = []
reads_after source before (unit ∷ units) =
    record { block = unit.block; content = unit_content source before unit unit.kind } ∷ reads_after source (before ++ as_coded before unit ∷ []) units

-- the units of a block of side 2 ^ (3 + depth) at (x, y), in the order of coding (7.3.8.4)
pub record IsOneUnit (block : CodingBlock) (units : List MoveLeaf) : Type 0 where
  pub kind : MoveKind
  pub one : units ≡ record { block = block; kind = kind } ∷ []

pub record AreFourParts (Tree : ℕ → ℕ → List MoveLeaf → Type 0) (half x y : ℕ) (units : List MoveLeaf) : Type 0 where
  pub first : List MoveLeaf
  pub second : List MoveLeaf
  pub third : List MoveLeaf
  pub fourth : List MoveLeaf
  pub together : units ≡ first ++ second ++ third ++ fourth
  pub top_left : Tree x y first
  pub top_right : Tree (x + half) y second
  pub bottom_left : Tree x (y + half) third
  pub bottom_right : Tree (x + half) (y + half) fourth

abbrev pub IsUnitTree : Size → ℕ → ℕ → ℕ → List MoveLeaf → Type 0
IsUnitTree size zero x y units = MatchBool (is_inside size x y) (IsOneUnit (block_at x y 3) units) (units ≡ [])
IsUnitTree size (suc depth) x y units =
    let half : ℕ = 2 ^ (3 + depth) in
    MatchBool (is_inside size x y)
    (MatchBool (is_whole size (2 * half) x y)
    (IsOneUnit (block_at x y (4 + depth)) units ⊎ AreFourParts (IsUnitTree size depth) half x y units)
    (AreFourParts (IsUnitTree size depth) half x y units))
    (units ≡ [])

-- a coding tree unit where blocks may move (7.3.8.2)
abbrev pub EachUnitTreeIsRead : Type 0
EachUnitTreeIsRead =
    (kind : SliceKind) (size : Size) (source : Source) (ctu : ℕ) (before : List Moving) (units : List MoveLeaf) → IsSource source →
    AreModes (leaves before) → AreShort before → IsUnitTree size 2 (ctu_x size ctu) (ctu_y size ctu) units → CanStandAll kind size before units →
    Reads (ctu_read kind size before ctu) (ctu_items (moving (move_unit kind source)) size before units ctu) (reads_after source before units)

-- ---- rows

-- the rows that units give where none moves
abbrev pub AreStill : (SliceKind → Source → UnitItems) → Type 0
AreStill unit =
    (kind : SliceKind) (size : Size) (source : Source) (leaves : List (List Leaf)) (row : ℕ) →
    row_code kind (moving (unit kind source)) size (map (map still) leaves) row ≡ row_code kind (leaf_units kind source) size leaves row

-- in streams without moves, and in streams with moves (7.3.8.1 to 7.3.8.5)
abbrev pub EachRowIsStill : Type 0
EachRowIsStill = AreStill still_unit × AreStill move_unit

-- the data of a row that is a segment, in streams without moves and in streams with moves, is that of leaves
abbrev pub EachSegmentIsStill : Type 0
EachSegmentIsStill =
    (kind : SliceKind) (size : Size) (source : Source) (leaves : List (List Leaf)) (row : ℕ) →
    (segment_code kind (moving (still_unit kind source)) size (map (map still) leaves) row ≡ segment_code kind (leaf_units kind source) size leaves row)
    × (segment_code kind (moving (move_unit kind source)) size (map (map still) leaves) row ≡ segment_code kind (leaf_units kind source) size leaves row)

-- what the units of a picture have to be: the trees of its coding tree units, each unit of which can stand after those before it
pub record AreLawfulUnits (kind : SliceKind) (size : Size) (units : List (List MoveLeaf)) (total : ℕ) : Type 0 where
  pub tree : (ctu : ℕ) → ctu < total → IsUnitTree size 2 (ctu_x size ctu) (ctu_y size ctu) (get_or units ctu [])
  pub stand : (ctu : ℕ) → ctu < total → CanStandAll kind size (coded_first units ctu) (get_or units ctu [])

-- units that are coded have modes and short vectors, the merge vectors of skips among them
abbrev pub EachCodedUnitIsFit : Type 0
EachCodedUnitIsFit =
    (kind : SliceKind) (size : Size) (units : List (List MoveLeaf)) (total n : ℕ) → n ≤ total → AreLawfulUnits kind size units total →
    AreModes (leaves (coded_first units n)) × AreShort (coded_first units n)

-- what is read of n coding tree units from this one on, after these contexts
abbrev pub units_from : SliceKind → Size → Source → List (List MoveLeaf) → ℕ → ℕ → List ℕ → List ReadCtu
units_from kind size source units ctu zero c = []
units_from kind size source units ctu (suc n) c =
    let before : List Moving = coded_first units ctu in
    let here : List MoveLeaf = get_or units ctu [] in
    let after_ctu : List ℕ = contexts_after (ctu_items (moving (move_unit kind source)) size before here ctu) c in
    record { units = reads_after source before here; contexts = after_ctu } ∷ units_from kind size source units (suc ctu) n after_ctu

-- a row of coding tree units where blocks may move, in a slice and as a segment of its own, with the contexts after each of them (7.3.8.1)
abbrev pub EachUnitRowIsRead : Type 0
EachUnitRowIsRead =
    (kind : SliceKind) (size : Size) (source : Source) (units : List (List MoveLeaf)) (row total : ℕ) → row * ctus size.w + ctus size.w ≤ total →
    AreLawfulUnits kind size units total → IsSource source →
    ReadsWith (slice_row_read kind size row (coded_first units (row * ctus size.w))) (items_of_row (moving (move_unit kind source)) size units row) (units_from kind size source units (row * ctus size.w) (ctus size.w))
    × ReadsWith (segment_row_read kind size row (coded_first units (row * ctus size.w))) (items_of_segment (moving (move_unit kind source)) size units row) (units_from kind size source units (row * ctus size.w) (ctus size.w))

-- the items of a row end in a terminating bin 1, and each other one has samples after it, in a slice and as a segment (7.3.8.1, 7.3.8.7)
abbrev pub EachUnitRowIsWellFormed : Type 0
EachUnitRowIsWellFormed =
    (kind : SliceKind) (size : Size) (source : Source) (units : List (List MoveLeaf)) (row : ℕ) → IsSource source → length units ≡ ctus size.w * ctus size.h →
    AreLawfulUnits kind size units (ctus size.w * ctus size.h) → 0 < ctus size.w → row < ctus size.h →
    IsWellFormed (items_of_row (moving (move_unit kind source)) size units row) × IsWellFormed (items_of_segment (moving (move_unit kind source)) size units row)

-- bytes that end in one that isn't 0, and that an entry point can count (7.4.7.1)
abbrev pub IsSubstream : List ℕ → Type 0
IsSubstream list = (0 < slice_index list (length list - 1)) × (length list < 2 ^ 31)

-- the bytes of a row where blocks may move are such, in a slice and as a segment
abbrev pub EachUnitRowIsSubstream : Type 0
EachUnitRowIsSubstream =
    (kind : SliceKind) (size : Size) (source : Source) (units : List (List MoveLeaf)) (row : ℕ) → IsSource source → length units ≡ ctus size.w * ctus size.h →
    AreLawfulUnits kind size units (ctus size.w * ctus size.h) → 0 < ctus size.w → ctus size.w ≤ 128 → row < ctus size.h →
    IsSubstream (row_code kind (moving (move_unit kind source)) size units row) × IsSubstream (segment_code kind (moving (move_unit kind source)) size units row)

-- ---- pictures

-- the block that a vector names in one picture is the leaf's block of the other
abbrev pub IsSameBlock : Picture → Picture → Leaf → Vector → Type 0
IsSameBlock prev now leaf v = (component : ℕ) → component < 3 → moved_samples prev leaf v component ≡ samples_in now leaf component

-- a unit of this kind that is copied is so of a block that is the same
abbrev pub IsCopied : Picture → Picture → List Moving → MoveLeaf → MoveKind → Type 0
IsCopied prev now before unit moves.Skip = IsSameBlock prev now (leaf_as_coded unit) (merge before unit.block)
IsCopied prev now before unit (moves.Move v) = IsSameBlock prev now (leaf_as_coded unit) v
IsCopied prev now before unit moves.Pcm = Unit {0}
IsCopied prev now before unit (moves.Intra mode) = Unit {0}

abbrev pub AreCopied : Picture → Picture → List Moving → List MoveLeaf → Type 0
AreCopied prev now before [] = Unit {0}
AreCopied prev now before (unit ∷ units) = IsCopied prev now before unit unit.kind × AreCopied prev now (before ++ as_coded before unit ∷ []) units

-- what is read of a picture's units rebuilds the picture over any previous one that has the copied blocks (8.4.4.1, 8.5.3.3, 8.6.2, 8.6.7)
abbrev pub EachUnitPictureIsRebuilt : Type 0
EachUnitPictureIsRebuilt =
    (kind : SliceKind) (size : Size) (prev now : Picture) (units : List (List MoveLeaf)) → 0 < ctus size.w → length units ≡ ctus size.w * ctus size.h →
    AreLawfulUnits kind size units (ctus size.w * ctus size.h) → IsPicture now → AreCopied prev now [] (joined units) →
    rebuild size prev (reads_after (source_of size now) [] (joined units)) ≡ planes size now
