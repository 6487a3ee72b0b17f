-- What the choice of a coding unit looks at.
use Rattle.std.specs.Prelude.{ℕ, ◌++◌}
use Rattle.h265_model.specs.declared.block.CodingBlock.{CodingBlock}
use Rattle.h265_model.specs.declared.moves.MoveKind.{MoveKind}
use Rattle.h265_model.specs.declared.moves.MoveKind.TheVariants as moves
use Rattle.h265_model.specs.Plain.{Size, Picture}
use Rattle.h265_model.specs.Choice.{pcm_cost}
use Rattle.h265_model.specs.MotionChoice.{MovePlan, best_of, one_unit, unit_at, move_plans, intra_plans}
use Rattle.vector_search.specs.Copies.{Search, IsNear}

-- where blocks are searched, and which modes are tried
pub record Trial : Type 0 where
  pub search : Search
  pub effort : ℕ

-- what is coded of a unit, with no vector but one that is tried
abbrev pub IsNearKind : MoveKind → Type 0
IsNearKind moves.Skip = Unit {0}
IsNearKind (moves.Move v) = IsNear v
IsNearKind moves.Pcm = Unit {0}
IsNearKind (moves.Intra mode) = Unit {0}

-- the cheapest of the modes and samples
abbrev pub still_plan : Picture → Size → ℕ → CodingBlock → MovePlan
still_plan now size effort block = best_of (intra_plans now size effort block) (one_unit (pcm_cost block.log2) (unit_at block moves.Pcm))

-- the cheapest of the moves, the modes and samples
abbrev pub unskipped_plan : Picture → Picture → Size → ℕ → CodingBlock → MovePlan
unskipped_plan last now size effort block =
    best_of (move_plans last now size block ++ intra_plans now size effort block) (one_unit (pcm_cost block.log2) (unit_at block moves.Pcm))
