-- A row of coding tree units that is coded.
use Rattle.std.specs.Prelude.{◌≡◌, ◌<◌, ◌≤◌, ℕ, ◌+◌, ◌*◌, ◌^◌, Bool, false, List, [], ◌∷◌, ◌++◌, length, map, take, get_or, true, ◌==◌, if◌then◌else◌, Option, Some, None}
use Rattle.std.specs.List.{AllByRecursion, flat_map}
use Rattle.h265_model.specs.declared.Item.{Item}
use Rattle.h265_model.specs.declared.leaf.Leaf.{Leaf}
use Rattle.h265_model.specs.declared.leaf.SliceKind.{SliceKind}
use Rattle.h265_model.specs.Plain.{Size, ctus, below, joined, terminate_bin}
use Rattle.h265_model.specs.Contexts.{start, row_start}
use Rattle.h265_model.specs.Code.{code, contexts_after, Ended}
use Rattle.h265_model.specs.Tree.{leaf_units, Source, ctu_items, is_last, IsLawfulTree, AreAllowed}
use Rattle.px_plane.specs.Planes.{Planes, picture_of}
use Rattle.arrayvec.specs.ArrayVec.{ArrayVec}
use Rattle.bin_items.specs.Growth.{IsOpen}
use Rattle.pu_code.specs.Cells.{Cells, StandsFor, IsUnit}
use Rattle.cabac_bytes.specs.State.{State, stands_for, phase_of}
use Rattle.row_core.specs.Plan.{Plan}
use Rattle.row_coder.specs.Sources.{picture_source}

-- the items of a coding tree unit of a row, by its number in the row, with end_of_slice_segment_flag (7.3.8.1); the leaves
-- above are those that are known of the row above
abbrev pub flagged_ctu : SliceKind → Size → Source → List Leaf → List (List Leaf) → ℕ → ℕ → List Item
flagged_ctu kind size source above plans row i =
    ctu_items (leaf_units kind source) size (above ++ joined (take i plans)) (get_or plans i []) (row * ctus size.w + i) ++ terminate_bin (is_last size (row * ctus size.w + i)) ∷ []

-- those of the first n coding tree units
unfoldable pub first_ctus : SliceKind → Size → Source → List Leaf → List (List Leaf) → ℕ → ℕ → List Item
first_ctus kind size source above plans row n = flat_map (flagged_ctu kind size source above plans row) (below n)

-- those of the whole row; end_of_subset_one_bit ends each row but the last
abbrev pub whole_row : SliceKind → Size → Source → List Leaf → List (List Leaf) → ℕ → List Item
whole_row kind size source above plans row =
    first_ctus kind size source above plans row (ctus size.w) ++ (if row + 1 == ctus size.h then [] else terminate_bin true ∷ [])

-- the contexts that a row starts from, by how many coding tree units stand side by side and what it inherits (9.3.1)
abbrev pub first_contexts : SliceKind → ℕ → ℕ → Option (List ℕ) → List ℕ
first_contexts kind width row None = start kind
first_contexts kind width row (Some contexts) = row_start kind width row contexts

-- lists of leaves as plain lists
abbrev pub leaves_of : List (ArrayVec Leaf) → List (List Leaf)
leaves_of lists = map (λ l. l.items) lists

-- a row: its picture, its kind of slice, its number, the leaves that are known of the row above, and those of its own coding tree
-- units; whether it was begun, what it inherited, and how many units are coded, unless a call found no memory
pub record Row : Type 0 where
  pub planes : Planes
  pub kind : SliceKind
  pub number : ℕ
  pub above : List Leaf
  pub plans : List (List Leaf)
  pub begun : Bool
  pub inherited : Option (List ℕ)
  pub coded : Option ℕ

-- what it is made to do
unfoldable pub plan_of : Row → Plan
plan_of r = record {
  width = length r.plans;
  second = λ inherited. contexts_after (first_ctus r.kind r.planes.size (picture_source r.planes.size (picture_of r.planes)) r.above r.plans r.number 2)
      (first_contexts r.kind (ctus r.planes.size.w) r.number inherited);
  bytes = λ inherited. code (whole_row r.kind r.planes.size (picture_source r.planes.size (picture_of r.planes)) r.above r.plans r.number)
      (first_contexts r.kind (ctus r.planes.size.w) r.number inherited);
}

-- how many units are coded; of a row that found no memory nothing can be asked
abbrev pub coded_of : Option ℕ → ℕ
coded_of (Some n) = n
coded_of None = 2 ^ 32

-- the leaves of a row's coding tree units are lawful trees
pub record AreTrees (kind : SliceKind) (size : Size) (row : ℕ) (plans : List (List Leaf)) : Type 0 where
  pub many : length plans ≡ ctus size.w
  pub tree : (i : ℕ) → i < ctus size.w → IsLawfulTree size (row * ctus size.w + i) (get_or plans i [])
  pub allowed : (i : ℕ) → i < ctus size.w → AreAllowed kind (get_or plans i [])

-- the leaves of the coding tree units of a row are lawful trees, of either kind of slice
pub record AreAbove (size : Size) (row : ℕ) (plans : List (List Leaf)) : Type 0 where
  pub many : length plans ≡ ctus size.w
  pub tree : (i : ℕ) → i < ctus size.w → IsLawfulTree size (row * ctus size.w + i) (get_or plans i [])

-- what is kept of these leaves, which are those of the row above and of n coding tree units; nothing need be before the first
abbrev pub IsKept : Size → List Leaf → ℕ → Option Cells → Type 0
IsKept size leaves n None = n ≡ 0
IsKept size leaves n (Some grid) = (grid.size ≡ size) × StandsFor grid leaves

-- so many units of a row are coded
pub record IsCoded (planes : Planes) (kind : SliceKind) (number : ℕ) (above : List Leaf) (plans : List (List Leaf)) (inherited : Option (List ℕ)) (grid : Option Cells) (coder : State) (n : ℕ) : Type 0 where
  pub within : n ≤ ctus planes.size.w
  pub units : AllByRecursion (IsUnit planes.size) above
  pub kept : IsKept planes.size (above ++ joined (take n plans)) n grid
  pub coder_is : stands_for coder (first_ctus kind planes.size (picture_source planes.size (picture_of planes)) above plans number n) (first_contexts kind (ctus planes.size.w) number inherited)
  pub is_open : number * ctus planes.size.w + n < ctus planes.size.w * ctus planes.size.h → IsOpen (phase_of coder)
  pub ended : number * ctus planes.size.w + n ≡ ctus planes.size.w * ctus planes.size.h → phase_of coder ≡ Ended

abbrev pub IsUnderWay : Planes → SliceKind → ℕ → List Leaf → List (List Leaf) → Option (List ℕ) → Option Cells → State → Option ℕ → Type 0
IsUnderWay planes kind number above plans inherited grid coder None = Unit {0}
IsUnderWay planes kind number above plans inherited grid coder (Some n) = IsCoded planes kind number above plans inherited grid coder n

-- what holds of each row and what it is coded with
pub record IsRow (r : Row) (grid : Option Cells) (coder : State) : Type 0 where
  pub wide : 0 < ctus r.planes.size.w
  pub narrow : ctus r.planes.size.w ≤ 128
  pub few : ctus r.planes.size.h ≤ 128
  pub number : r.number < ctus r.planes.size.h
  pub trees : AreTrees r.kind r.planes.size r.number r.plans
  pub fresh : r.begun ≡ false → r.coded ≡ Some 0
  pub bare : r.begun ≡ false → grid ≡ None
  pub under_way : IsUnderWay r.planes r.kind r.number r.above r.plans r.inherited grid coder r.coded
