-- Recordings in row segments.
use Rattle.std.specs.Prelude.{◌≡◌, ℕ, List, take}
use Rattle.h265_model.specs.declared.extra.Extra.TheVariants.{Segments}
use Rattle.h265_model.specs.declared.leaf.Leaf.{Leaf}
use Rattle.h265_model.specs.Plain.{Size, joined}
use Rattle.h265_model.specs.Settings.{Settings}
use Rattle.h265_model.specs.Slice.{segment_code}
use Rattle.h265_model.specs.Tree.{Units, Source, leaf_units, source_of}
use Rattle.px_plane.specs.Planes.{picture_of}
use Rattle.pu_code.specs.Cells.{Cells, StandsFor}
use Rattle.row_coder.specs.Sources.{picture_source}
use Rattle.picture_encoder.specs.declared.planning.Task.{Task}
use Rattle.picture_encoder.specs.Planning.{IsTask, planes_of_task, size_of_task, kind_of_task, all_chosen}
use Rattle.row_sequence.specs.Sequence.{CtuItems, items_by}

-- a kind of stream, this project's own: each row of coding tree units is a slice segment (7.3.6.1)
abbrev pub segmented : Size → ℕ → ℕ → Settings
segmented size effort key = record { size = size; effort = effort; key = key; extra = Segments }

-- the coding units of a picture that is to be coded
abbrev pub units_of_task : Task → Units Leaf Leaf
units_of_task t = leaf_units (kind_of_task t) (source_of (size_of_task t) (picture_of (planes_of_task t)))

-- what is written of each coding tree unit
abbrev pub items_of_task : Task → CtuItems
items_of_task t = items_by (units_of_task t) (size_of_task t) (all_chosen t)

-- the data of the segment of a row
abbrev pub segment_of_task : Task → ℕ → List ℕ
segment_of_task t = segment_code (kind_of_task t) (units_of_task t) (size_of_task t) (all_chosen t)

-- a picture of which so many coding tree units are written: the grid has their coding units, and the source gives what the picture does
pub record IsReady (t : Task) (grid : Cells) (source : Source) (n : ℕ) : Type 0 where
  pub task : IsTask t
  pub size : grid.size ≡ size_of_task t
  pub set : StandsFor grid (joined (take n (all_chosen t)))
  pub source_is : source ≡ picture_source (size_of_task t) (picture_of (planes_of_task t))
