-- How the plan of a block is put together.
use Rattle.std.specs.Prelude.{◌≡◌, ◌≤◌, ◌<◌, ℕ, ◌+◌, ◌%◌, Bool, true, List, ◌++◌, length, Option, Some, None}
use Rattle.h265_model.specs.declared.block.CodingBlock.{CodingBlock}
use Rattle.h265_model.specs.declared.moves.MoveLeaf.{MoveLeaf}
use Rattle.h265_model.specs.Plain.{side}
use Rattle.h265_model.specs.Motion.{Moving, coded_after}
use Rattle.h265_model.specs.MotionChoice.{MovePlan, one_unit, plan, split_plan, unit_plan}
use Rattle.px_plane.specs.Planes.{picture_of}
use Rattle.motion_grid.specs.Cells.{HasMotion}
use Rattle.chosen_units.specs.Chosen.{Choosing}
use Rattle.vector_search.specs.Copies.{Search}
use Rattle.unit_choice.specs.Units.{Trial}
use Rattle.unit_choice.specs.declared.units.PlannedUnit.{PlannedUnit}

-- a search of a coding tree unit
pub record IsTrial (t : Trial) : Type 0 where
  pub x : t.search.x < 4096
  pub y : t.search.y < 4096

-- a block in the coding tree unit
pub record IsPlace (s : Search) (block : CodingBlock) : Type 0 where
  pub left : s.x ≤ block.x
  pub right : block.x + side block ≤ s.x + 32
  pub top : s.y ≤ block.y
  pub bottom : block.y + side block ≤ s.y + 32
  pub whole_x : block.x % side block ≡ 0
  pub whole_y : block.y % side block ≡ 0

-- the plan of a block by this search, after these units
abbrev pub plan_of : Trial → ℕ → ℕ → ℕ → List Moving → MovePlan
plan_of t depth x y before = plan (picture_of t.search.last) (picture_of t.search.current) t.search.current.size t.effort depth x y before

abbrev pub split_of : Trial → ℕ → ℕ → ℕ → ℕ → List Moving → MovePlan
split_of t depth half x y before = split_plan (plan_of t depth) half x y before

abbrev pub unit_of : Trial → CodingBlock → List Moving → MovePlan
unit_of t block before = unit_plan (picture_of t.search.last) (picture_of t.search.current) t.search.current.size t.effort before block

-- a plan of one unit of a block that may go beyond the coded picture, where it costs less than the limit
abbrev pub IsWholeUnit : Option PlannedUnit → ℕ → Bool → MovePlan → Type 0
IsWholeUnit None limit whole plan = whole ≡ true → limit ≤ plan.cost
IsWholeUnit (Some u) limit whole plan = (whole ≡ true) × (u.cost < limit) × (plan ≡ one_unit u.cost u.unit)

-- a plan's units are added where they cost less than the limit
abbrev pub IsPlannedAs : Option ℕ → ℕ → MovePlan → List MoveLeaf → List MoveLeaf → Type 0
IsPlannedAs None limit plan old new = (limit ≤ plan.cost) × (new ≡ old)
IsPlannedAs (Some cost) limit plan old new = (cost ≡ plan.cost) × (cost < limit) × (new ≡ old ++ plan.units)

-- the same, whichever units the grid stands for
abbrev pub IsPlanned : Option ℕ → ℕ → (List Moving → MovePlan) → Choosing → Choosing → Type 0
IsPlanned result limit plan old new =
    (before : List Moving) → HasMotion old.motion before → IsPlannedAs result limit (plan (coded_after before old.units)) old.units new.units

-- some units are added, of a grid that stays
pub record Grows (old new : Choosing) (most : ℕ) : Type 0 where
  pub motion : new.motion ≡ old.motion
  pub added : List MoveLeaf
  pub units : new.units ≡ old.units ++ added
  pub few : length added ≤ most
