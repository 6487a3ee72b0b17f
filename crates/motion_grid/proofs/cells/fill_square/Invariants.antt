use Rattle.std.specs.Prelude.{◌+◌}
use Rattle.motion_grid.specs.Cells.{IsFilled}
use Rattle.motion_grid.proofs.cells.fill_square.Given as goal

abbrev pub invariant-loop-y : goal.invariant-loop-y
invariant-loop-y l = IsFilled l.fn.cells l.cells l.columns l.left (l.left + l.side) l.top l.y l.cell
