use Rattle.std.proofs.Common.{◌≡◌, ℕ, ◌<◌, ◌≤◌, get_or, Some, None}
use Rattle.std.specs.Option.{option_or}
use Rattle.motion_grid.proofs.cells.fill_row.Given as goal

abbrev pub invariant-loop-i : goal.invariant-loop-i
invariant-loop-i l = ((k : ℕ) → k < l.i → get_or l.row k None ≡ option_or (get_or l.fn.row k None) (Some l.cell)) × ((k : ℕ) → l.i ≤ k → get_or l.row k None ≡ get_or l.fn.row k None)
