-- Laws over the reading of coding tree units: whatever the bytes are, what is read of them is lawful and covers the picture.
use Rattle.std.specs.Prelude.{◌≡◌, ◌<◌, ℕ, suc, ◌+◌, ◌*◌, Bool, true, false, not, List, [], ◌∷◌, ◌++◌, length, map, Option, Some, None}
use Rattle.std.specs.List.{AllByRecursion, filter, list_any}
use Rattle.h265_model.specs.declared.leaf.SliceKind.{SliceKind}
use Rattle.h265_model.specs.declared.leaf.SliceKind.TheVariants.{I, P}
use Rattle.h265_model.specs.declared.leaf.Leaf.{Leaf}
use Rattle.h265_model.specs.declared.moves.Vector.{Vector}
use Rattle.h265_model.specs.Plain.{Size, Picture, ctus, joined}
use Rattle.h265_model.specs.Raster.{planes}
use Rattle.h265_model.specs.Engine.{Engine}
use Rattle.h265_model.specs.Tree.{IsLawfulTree, IsMode, AreModes}
use Rattle.h265_model.specs.Plain.{covers}
use Rattle.h265_model.specs.Motion.{Moving, leaves, no_motion, is_vector}
use Rattle.h265_model.specs.Tree.{Content, Copied, Moved, Samples, Levels, ReadUnit, ReadCtu, kind_of, vector_of, leaf_of, moving_of, units_of, is_in_picture, ctu_read}
use Rattle.h265_model.specs.Slice.{slice_read, segment_read}
use Rattle.h265_model.specs.Rebuild.{with_units, rebuild}

-- ---- units

-- an I slice has no copies
abbrev pub IsNoCopy : SliceKind → Option Vector → Type 0
IsNoCopy I v = v ≡ None
IsNoCopy P v = Unit {0}

-- a unit that a slice may have: no copy in an I slice, a mode below 35, and the source of a copy wholly in the coded picture
pub record IsSound (kind : SliceKind) (size : Size) (unit : ReadUnit) : Type 0 where
  pub copies : IsNoCopy kind (vector_of unit.content)
  pub mode : IsMode (kind_of unit.content)
  pub source : is_in_picture size unit.block (vector_of unit.content) ≡ true

-- ---- coding tree units

-- whatever an engine spells, the units that are read of it are a lawful tree (7.3.8.4), and each is sound
abbrev pub EachReadTreeIsLawful : Type 0
EachReadTreeIsLawful =
    (kind : SliceKind) (size : Size) (before : List Moving) (ctu : ℕ) (e left : Engine) (units : List ReadUnit) → AreModes (leaves before) →
    ctu_read kind size before ctu e ≡ Some (units, left) → IsLawfulTree size ctu (map leaf_of units) × AllByRecursion (IsSound kind size) units

-- ---- pictures

-- units of coding tree units from this one on
abbrev pub AreTreesFrom : SliceKind → Size → ℕ → List (List ReadUnit) → Type 0
AreTreesFrom kind size ctu [] = Unit {0}
AreTreesFrom kind size ctu (units ∷ trees) = IsLawfulTree size ctu (map leaf_of units) × AllByRecursion (IsSound kind size) units × AreTreesFrom kind size (suc ctu) trees

-- the units of the first n coding tree units of a picture
pub record IsReadFirst (kind : SliceKind) (size : Size) (n : ℕ) (units : List ReadUnit) : Type 0 where
  pub trees : List (List ReadUnit)
  pub together : joined trees ≡ units
  pub many : length trees ≡ n
  pub lawful : AreTreesFrom kind size 0 trees

-- what is read of a picture's slice data, cut by as many entry points as it has rows but one
abbrev pub EachReadSliceIsLawful : Type 0
EachReadSliceIsLawful =
    (kind : SliceKind) (size : Size) (offsets bytes : List ℕ) (units : List ReadUnit) → length offsets + 1 ≡ ctus size.h →
    slice_read kind size offsets bytes ≡ Some units → IsReadFirst kind size (ctus size.w * ctus size.h) units

-- what is read of one more segment
abbrev pub EachReadSegmentIsLawful : Type 0
EachReadSegmentIsLawful =
    (kind : SliceKind) (size : Size) (row : ℕ) (before : List ReadUnit) (handed bytes : List ℕ) (read : List ReadCtu) → IsReadFirst kind size (row * ctus size.w) before →
    segment_read kind size row (map moving_of before) handed bytes ≡ Some read → IsReadFirst kind size ((row + 1) * ctus size.w) (before ++ units_of read)

-- the units of a whole picture draw it, whatever they are drawn over
abbrev pub EachReadPictureIsDrawn : Type 0
EachReadPictureIsDrawn =
    (kind : SliceKind) (size : Size) (prev canvas : Picture) (units : List ReadUnit) → 0 < ctus size.w → IsReadFirst kind size (ctus size.w * ctus size.h) units →
    planes size (with_units size prev canvas units) ≡ rebuild size prev units

-- no place is in two leaves: none of a leaf's places is in an earlier one, or in one of these before
abbrev pub AreApart : List Leaf → List Leaf → Type 0
AreApart before [] = Unit {0}
AreApart before (leaf ∷ leaves) = ((x y : ℕ) → covers x y leaf ≡ true → list_any (covers x y) before ≡ false) × AreApart (before ++ leaf ∷ []) leaves

-- each place of a picture is drawn by one unit alone
abbrev pub EachPlaceIsDrawnOnce : Type 0
EachPlaceIsDrawnOnce = (kind : SliceKind) (size : Size) (n : ℕ) (units : List ReadUnit) → IsReadFirst kind size n units → AreApart [] (map leaf_of units)

-- a copy from the same place
abbrev pub is_still_copy : Content → Bool
is_still_copy (Copied v) = is_vector v no_motion
is_still_copy (Moved v) = false
is_still_copy (Samples planes) = false
is_still_copy (Levels mode planes) = false

-- the units that aren't
abbrev pub changing : List ReadUnit → List ReadUnit
changing units = filter (λ (unit : ReadUnit). not (is_still_copy unit.content)) units

-- drawn over the picture before, a picture is the same without these copies
abbrev pub EachStillCopyIsLeftOut : Type 0
EachStillCopyIsLeftOut =
    (kind : SliceKind) (size : Size) (n : ℕ) (prev : Picture) (units : List ReadUnit) → IsReadFirst kind size n units → (component x y : ℕ) → component < 3 →
    with_units size prev prev (changing units) component x y ≡ with_units size prev prev units component x y

-- so the units of a whole picture draw it over the picture before without them
abbrev pub EachPictureIsDrawnInPlace : Type 0
EachPictureIsDrawnInPlace =
    (kind : SliceKind) (size : Size) (prev : Picture) (units : List ReadUnit) → 0 < ctus size.w → IsReadFirst kind size (ctus size.w * ctus size.h) units →
    planes size (with_units size prev prev (changing units)) ≡ rebuild size prev units
