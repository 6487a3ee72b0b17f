-- Recordings whose blocks may be copied from another place of the picture before.
use Rattle.std.specs.Prelude.{◌≡◌, ℕ, List}
use Rattle.h265_model.specs.declared.extra.Extra.TheVariants.{Moves}
use Rattle.h265_model.specs.declared.moves.MoveLeaf.{MoveLeaf}
use Rattle.h265_model.specs.Plain.{Size}
use Rattle.h265_model.specs.Settings.{Settings}
use Rattle.h265_model.specs.Motion.{Moving}
use Rattle.h265_model.specs.Slice.{row_code}
use Rattle.h265_model.specs.Stream.{moved_units}
use Rattle.h265_model.specs.Tree.{Units, Source, moving, move_unit, source_of, coded_first}
use Rattle.px_plane.specs.Planes.{picture_of}
use Rattle.pu_code.specs.Cells.{Cells}
use Rattle.motion_grid.specs.Cells as motions
use Rattle.motion_code.specs.Moves.{AreKept, HasShort}
use Rattle.row_coder.specs.Sources.{picture_source}
use Rattle.picture_encoder.specs.declared.planning.Task.{Task}
use Rattle.picture_encoder.specs.Planning.{IsTask, planes_of_task, size_of_task, kind_of_task, reference_of_task}
use Rattle.row_sequence.specs.Sequence.{CtuItems, items_by}

-- a kind of stream, this project's own: blocks may be copied from another place of the picture before (7.3.8.6)
abbrev pub moved : Size → ℕ → ℕ → Settings
moved size effort key = record { size = size; effort = effort; key = key; extra = Moves }

-- the units of each coding tree unit of a picture that is to be coded: the same, whatever the distance of IDR pictures
abbrev pub all_units : Task → List (List MoveLeaf)
all_units t = moved_units (moved (size_of_task t) t.effort 0) (reference_of_task t) (picture_of (planes_of_task t))

-- how its coding units are written (7.3.8.5)
abbrev pub units_of_task : Task → Units MoveLeaf Moving
units_of_task t = moving (move_unit (kind_of_task t) (source_of (size_of_task t) (picture_of (planes_of_task t))))

-- what is written of each coding tree unit
abbrev pub items_of_task : Task → CtuItems
items_of_task t = items_by (units_of_task t) (size_of_task t) (all_units t)

-- the bytes of a row
abbrev pub code_of_task : Task → ℕ → List ℕ
code_of_task t = row_code (kind_of_task t) (units_of_task t) (size_of_task t) (all_units t)

-- a picture of which so many coding tree units are written: the grids have their coding units and the vectors of these,
-- which are short, and the source gives what the picture does
pub record IsReady (t : Task) (grid : Cells) (motion : motions.Cells) (source : Source) (n : ℕ) : Type 0 where
  pub task : IsTask t
  pub size : grid.size ≡ size_of_task t
  pub motion_size : motion.size ≡ size_of_task t
  pub kept : AreKept grid motion (coded_first (all_units t) n)
  pub short : HasShort motion
  pub source_is : source ≡ picture_source (size_of_task t) (picture_of (planes_of_task t))
