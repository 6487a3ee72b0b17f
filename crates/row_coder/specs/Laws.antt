-- Rows of a picture that are coded one by one, and the definition of a slice's rows.
use Rattle.std.specs.Prelude.{◌≡◌, ◌<◌, ◌≤◌, ℕ, zero, suc, ◌*◌, List, [], Option, take, drop, slice_index_or}
use Rattle.h265_model.specs.declared.leaf.Leaf.{Leaf}
use Rattle.h265_model.specs.declared.leaf.SliceKind.{SliceKind}
use Rattle.h265_model.specs.Plain.{Size, ctus, joined}
use Rattle.h265_model.specs.Tree.{leaf_units, source_of, AreLawfulTrees}
use Rattle.h265_model.specs.Slice.{contexts_at, row_code}
use Rattle.h265_model.specs.Board.{row_inherits}
use Rattle.h265_model.specs.Wave.{inherited}
use Rattle.px_plane.specs.Planes.{Planes, picture_of}
use Rattle.row_coder.specs.Rows.{Row, first_contexts, plan_of}

-- the leaves of the coding tree units of a row, of those of all coding tree units of the picture
abbrev pub row_leaves : Size → List (List Leaf) → ℕ → List (List Leaf)
row_leaves size leaves row = take (ctus size.w) (drop (row * ctus size.w) leaves)

abbrev pub leaves_above : Size → List (List Leaf) → ℕ → List Leaf
leaves_above size leaves zero = []
leaves_above size leaves (suc row) = joined (row_leaves size leaves row)

-- the row with this number, made from the leaves of the picture
pub record IsRowOf (planes : Planes) (kind : SliceKind) (leaves : List (List Leaf)) (row : ℕ) (r : Row) : Type 0 where
  pub planes_are : r.planes ≡ planes
  pub kind_is : r.kind ≡ kind
  pub number_is : r.number ≡ row
  pub above_is : r.above ≡ leaves_above planes.size leaves row
  pub plans_are : r.plans ≡ row_leaves planes.size leaves row

-- the leaves of all coding tree units of a picture
pub record ArePictureLeaves (planes : Planes) (kind : SliceKind) (leaves : List (List Leaf)) : Type 0 where
  pub wide : 0 < ctus planes.size.w
  pub lawful : AreLawfulTrees kind planes.size leaves (ctus planes.size.w * ctus planes.size.h)

-- what the row starts from and gives is the slice's
pub record IsCodedRow (planes : Planes) (kind : SliceKind) (leaves : List (List Leaf)) (row : ℕ) (r : Row) (inherits : Option (List ℕ)) : Type 0 where
  pub starts : first_contexts kind (ctus planes.size.w) row inherits ≡ contexts_at kind (leaf_units kind (source_of planes.size (picture_of planes))) planes.size leaves row
  pub gives : (plan_of r).bytes inherits ≡ row_code kind (leaf_units kind (source_of planes.size (picture_of planes))) planes.size leaves row

-- with the contexts that the rows above hand on, by their plans
abbrev pub EachRowIsCoded : Type 0
EachRowIsCoded =
    (planes : Planes) (kind : SliceKind) (leaves : List (List Leaf)) (rows : ℕ → Row) (want : List (List ℕ))
    → ArePictureLeaves planes kind leaves
    → ((row : ℕ) → row < ctus planes.size.h → IsRowOf planes kind leaves row (rows row))
    → ((row : ℕ) → row < ctus planes.size.h → 2 ≤ ctus planes.size.w → slice_index_or want row [] ≡ (plan_of (rows row)).second (row_inherits (ctus planes.size.w) want row))
    → (row : ℕ) → row < ctus planes.size.h → IsCodedRow planes kind leaves row (rows row) (row_inherits (ctus planes.size.w) want row)

-- the same for jobs with these plans
abbrev pub EachJobIsCoded : Type 0
EachJobIsCoded =
    (planes : Planes) (kind : SliceKind) (leaves : List (List Leaf)) (rows : ℕ → Row)
    → ArePictureLeaves planes kind leaves
    → ((row : ℕ) → row < ctus planes.size.h → IsRowOf planes kind leaves row (rows row))
    → (row : ℕ) → row < ctus planes.size.h
    → IsCodedRow planes kind leaves row (rows row)
    (inherited (record { width = ctus planes.size.w; second = λ r. (plan_of (rows r)).second; bytes = λ r. (plan_of (rows r)).bytes }) row)
