-- Coding units that may move, and what the grids keep of them.
use Rattle.std.specs.Prelude.{◌≤◌, nat_abs, List, ◌++◌, map, IfSome}
use Rattle.std.specs.List.{AllByRecursion}
use Rattle.h265_model.specs.declared.Item.{Item}
use Rattle.h265_model.specs.declared.leaf.Leaf.{Leaf}
use Rattle.h265_model.specs.declared.leaf.SliceKind.{SliceKind}
use Rattle.h265_model.specs.declared.leaf.SliceKind.TheVariants.{I, P}
use Rattle.h265_model.specs.declared.moves.Vector.{Vector}
use Rattle.h265_model.specs.declared.moves.MoveKind.{MoveKind}
use Rattle.h265_model.specs.declared.moves.MoveKind.TheVariants as moves
use Rattle.h265_model.specs.declared.moves.MoveLeaf.{MoveLeaf}
use Rattle.h265_model.specs.Plain.{Size}
use Rattle.h265_model.specs.Motion.{Moving, leaves, leaf_as_coded}
use Rattle.h265_model.specs.Tree.{Source, move_unit}
use Rattle.pu_code.specs.Cells.{StandsFor}
use Rattle.pu_code.specs.Cells as modes
use Rattle.motion_grid.specs.Cells.{HasMotion}
use Rattle.motion_grid.specs.Cells as motions
use Rattle.coding_tree.specs.UnitFlags.{flags_items}

-- ---- vectors

-- a vector of at most 4095 samples each way, so that its difference from another one has a code
pub record IsShort (v : Vector) : Type 0 where
  pub x : nat_abs v.x ≤ 4095
  pub y : nat_abs v.y ≤ 4095

-- units with short vectors
abbrev pub AreShort : List Moving → Type 0
AreShort units = AllByRecursion (λ unit. IfSome unit.vector IsShort) units

-- the grid has the vectors of such units
pub record HasShort (motions : motions.Cells) : Type 0 where
  pub units : List Moving
  pub has : HasMotion motions units
  pub short : AreShort units

-- ---- units

-- both grids stand for these units
pub record AreKept (cells : modes.Cells) (motions : motions.Cells) (units : List Moving) : Type 0 where
  pub modes : StandsFor cells (leaves units)
  pub vectors : HasMotion motions units

-- a unit of this kind may stand in the slice: an I slice has no copies, and vectors are short
abbrev pub MayStand : SliceKind → MoveKind → Type 0
MayStand I moves.Skip = ⊥
MayStand P moves.Skip = Unit {0}
MayStand I (moves.Move v) = ⊥
MayStand P (moves.Move v) = IsShort v
MayStand kind moves.Pcm = Unit {0}
MayStand kind (moves.Intra mode) = Unit {0}

abbrev pub MayAllStand : SliceKind → List MoveLeaf → Type 0
MayAllStand kind units = AllByRecursion (λ unit. MayStand kind unit.kind) units

-- units as splits, skips and candidates look at them
abbrev pub coded_leaves : List MoveLeaf → List Leaf
coded_leaves units = map leaf_as_coded units

-- a unit with the flags of the blocks that begin with it
unfoldable pub flagged_items : SliceKind → Size → Source → List Moving → MoveLeaf → List Item
flagged_items kind size source before unit = flags_items size (leaves before) (leaf_as_coded unit) ++ move_unit kind source before unit
