-- Coding units that are chosen after those that a grid keeps.
use Rattle.std.specs.Prelude.{◌≡◌, ◌≤◌, List, [], ◌∷◌, ◌++◌, map}
use Rattle.std.specs.List.{AllByRecursion}
use Rattle.h265_model.specs.declared.block.CodingBlock.{CodingBlock}
use Rattle.h265_model.specs.declared.moves.MoveLeaf.{MoveLeaf}
use Rattle.h265_model.specs.Motion.{Moving, merge, leaf_as_coded, kind_vector, as_coded, coded_after}
use Rattle.motion_grid.specs.Cells.{Cells, HasMotion}
use Rattle.chosen_units.specs.declared.chosen.Chosen.{Chosen}

-- what a grid keeps, and the units that are chosen after those that it stands for
pub record Choosing : Type 0 where
  pub motion : Cells
  pub units : List MoveLeaf

-- these units: some that the grid stands for, and then the chosen ones, each coded after those before it
pub record IsCodedWith (choosing : Choosing) (units : List Moving) : Type 0 where
  pub before : List Moving
  pub has : HasMotion choosing.motion before
  pub after : units ≡ coded_after before choosing.units

-- ---- how they are kept

-- the units
abbrev pub units_of : List Chosen → List MoveLeaf
units_of list = map (λ (one : Chosen). one.unit) list

-- a unit with its vector, as one that is coded
abbrev pub as_moving : Chosen → Moving
as_moving one = record { leaf = leaf_as_coded one.unit; vector = one.vector }

abbrev pub movings : List Chosen → List Moving
movings list = map as_moving list

-- each has the vector with which it is coded after those before it
abbrev pub AreInTurn : List Moving → List Chosen → Type 0
AreInTurn before [] = Unit {0}
AreInTurn before (one ∷ list) =
    (one.vector ≡ kind_vector (merge before one.unit.block) one.unit.kind) × AreInTurn (before ++ as_coded before one.unit ∷ []) list

-- a block within the largest picture
pub record IsSmall (block : CodingBlock) : Type 0 where
  pub low : 3 ≤ block.log2
  pub high : block.log2 ≤ 5
  pub x : block.x ≤ 4096
  pub y : block.y ≤ 4096

abbrev pub AreSmall : List Chosen → Type 0
AreSmall list = AllByRecursion (λ (one : Chosen). IsSmall one.unit.block) list

-- what holds of units that are chosen after those of a grid
pub record AreChosen (motion : Cells) (list : List Chosen) : Type 0 where
  pub small : AreSmall list
  pub in_turn : (before : List Moving) → HasMotion motion before → AreInTurn before list
