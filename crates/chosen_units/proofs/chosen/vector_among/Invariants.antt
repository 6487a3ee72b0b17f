use Rattle.std.proofs.Common.{◌≡◌, drop}
use Rattle.motion_grid.specs.Cells.{unit_at}
use Rattle.chosen_units.specs.Chosen.{movings}
use Rattle.chosen_units.proofs.chosen.vector_among.Given as goal

abbrev pub invariant-loop-one : goal.invariant-loop-one
invariant-loop-one l = unit_at (movings l.list) l.x l.y ≡ unit_at (movings (drop l.one-index l.list)) l.x l.y
