-- A picture that is to be coded, and what is coded of it.
use Rattle.std.specs.Prelude.{◌≡◌, ◌≤◌, ◌<◌, ℕ, ◌*◌, ◌+◌, Bool, true, false, ◌%◌, List, [], ◌∷◌, ◌++◌, map, length, slice_index, slice_index_or, Option, Some, None, option_map, is_none, IfSome}
use Rattle.std.specs.Arc.{arc_value}
use Rattle.std.specs.List.{range_with_len, Contains}
use Rattle.h265_model.specs.declared.leaf.Leaf.{Leaf}
use Rattle.h265_model.specs.declared.leaf.SliceKind.{SliceKind}
use Rattle.h265_model.specs.Plain.{Size, Picture, ctus, below}
use Rattle.h265_model.specs.Choice.{choice}
use Rattle.h265_model.specs.Tiles.{tile_count}
use Rattle.h265_model.specs.NalUnits.{escape}
use Rattle.h265_model.specs.Slice.{row_code}
use Rattle.h265_model.specs.Stream.{slice_kind, is_idr, order_count, row_codes, slice_piece, picture_units}
use Rattle.h265_model.specs.Tree.{leaf_units, source_of}
use Rattle.px_plane.specs.Planes.{Planes, picture_of}
use Rattle.block_choice.specs.Plans.{IsSameTree}
use Rattle.row_coder.specs.Rows.{Row}
use Rattle.row_coder.specs.Laws.{row_leaves, leaves_above}
use Rattle.picture_encoder.specs.Coded.{Coded, after_slice}
use Rattle.picture_encoder.specs.declared.planning.Task.{Task}

-- the picture that a picture may copy from
abbrev pub reference_of : Bool → Picture → Option Picture
reference_of true last = None
reference_of false last = Some last

-- each listed tile has its flag
abbrev pub AreFlagged : List Bool → List ℕ → Type 0
AreFlagged flags tiles = (k : ℕ) → k < length tiles → slice_index_or flags (slice_index tiles k) false ≡ true

-- how many flags there are
abbrev pub raised : List Bool → ℕ
raised [] = 0
raised (true ∷ flags) = 1 + raised flags
raised (false ∷ flags) = raised flags

-- how many positions are compared at most in a tile, by its flag
abbrev pub most_ticks : Bool → ℕ
most_ticks true = 1024
most_ticks false = 0

-- two pictures of one size are the same in each tile that has no flag
pub record IsKept (flags : List Bool) (last now : Planes) : Type 0 where
  pub size : last.size ≡ now.size
  pub long : length flags ≡ tile_count now.size
  pub same : (tile : ℕ) → tile < tile_count now.size → slice_index_or flags tile false ≡ false → IsSameTree (picture_of last) (picture_of now) now.size tile

-- a picture of the same size has the samples of another but in these tiles
pub record IsKeptBut (tiles : List ℕ) (last now : Planes) : Type 0 where
  pub size : last.size ≡ now.size
  pub same : (tile : ℕ) → tile < tile_count now.size → (Contains tiles tile → ⊥) → IsSameTree (picture_of last) (picture_of now) now.size tile

abbrev pub planes_of_task : Task → Planes
planes_of_task t = arc_value t.current.now

abbrev pub size_of_task : Task → Size
size_of_task t = (planes_of_task t).size

-- the picture that it may copy from
abbrev pub reference_of_task : Task → Option Picture
reference_of_task t = option_map (λ p. picture_of p.now) t.reference

abbrev pub is_idr_task : Task → Bool
is_idr_task t = is_none (reference_of_task t)

abbrev pub kind_of_task : Task → SliceKind
kind_of_task t = slice_kind (is_idr_task t)

pub record IsTask (t : Task) : Type 0 where
  pub effort : t.effort ≤ 2
  pub long : length t.touched.now ≡ tile_count (size_of_task t)
  pub kept : IfSome t.reference (λ p. IsKept t.touched.now p.now (planes_of_task t))

-- the leaves of a coding tree unit
abbrev pub chosen : Task → ℕ → List Leaf
chosen t = choice (reference_of_task t) (picture_of (planes_of_task t)) (size_of_task t) t.effort

-- those of all
abbrev pub all_chosen : Task → List (List Leaf)
all_chosen t = map (chosen t) (below (ctus (size_of_task t).w * ctus (size_of_task t).h))

-- those of a row
abbrev pub row_chosen : Task → ℕ → List (List Leaf)
row_chosen t row = map (chosen t) (range_with_len (row * ctus (size_of_task t).w) (ctus (size_of_task t).w))

-- a row that is to be coded
abbrev pub job_row : Planes → SliceKind → List (List Leaf) → ℕ → Row
job_row planes kind leaves row = record {
  planes = planes;
  kind = kind;
  number = row;
  above = leaves_above planes.size leaves row;
  plans = row_leaves planes.size leaves row;
  begun = false;
  inherited = None;
  coded = Some 0;
}

abbrev pub row_of_task : Task → ℕ → Row
row_of_task t = job_row (planes_of_task t) (kind_of_task t) (all_chosen t)

-- the bytes of a row
abbrev pub code_of_task : Task → ℕ → List ℕ
code_of_task t = row_code (kind_of_task t) (leaf_units (kind_of_task t) (source_of (size_of_task t) (picture_of (planes_of_task t)))) (size_of_task t) (all_chosen t)

-- the bytes of all rows, with their emulation prevention
abbrev pub rows_of_task : Task → List (List ℕ)
rows_of_task t = map (λ row. escape (code_of_task t row)) (below (ctus (size_of_task t).h))

-- the task of a picture after those that an encoder has coded
pub record IsTaskOf (e : Coded) (now : Planes) (t : Task) : Type 0 where
  pub reference : reference_of_task t ≡ reference_of (is_idr e.settings.key e.count) (picture_of e.last)
  pub idr : is_idr_task t ≡ is_idr e.settings.key e.count
  pub current : planes_of_task t ≡ now
  pub effort : t.effort ≡ e.settings.effort

-- the bytes of its rows
abbrev pub codes_of : Coded → Planes → List (List ℕ)
codes_of e now =
    let idr : Bool = is_idr e.settings.key e.count in
    let leaves : List (List Leaf) = map (choice (reference_of idr (picture_of e.last)) (picture_of now) now.size e.settings.effort) (below (ctus now.size.w * ctus now.size.h)) in
    map (row_code (slice_kind idr) (leaf_units (slice_kind idr) (source_of now.size (picture_of now))) now.size leaves) (below (ctus now.size.h))

-- its slice
abbrev pub slice_of : Coded → Planes → List ℕ
slice_of e now =
    slice_piece (is_idr e.settings.key e.count) (order_count e.settings.key e.count % 256)
    (row_codes e.settings (is_idr e.settings.key e.count) (reference_of (is_idr e.settings.key e.count) (picture_of e.last)) (picture_of now))

-- its piece
abbrev pub piece_of : Coded → Planes → List ℕ
piece_of e now = slice_of e now ++ after_slice e.settings.extra now

-- the NAL units of a picture after those that were coded, of whatever stream
abbrev pub units_of : Coded → Planes → List ℕ
units_of e now =
    let idr : Bool = is_idr e.settings.key e.count in
    picture_units e.settings.extra e.settings idr (order_count e.settings.key e.count % 256) (reference_of idr (picture_of e.last)) (picture_of now)
