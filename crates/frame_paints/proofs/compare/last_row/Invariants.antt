use Rattle.std.proofs.Common.{◌+◌, ◌-◌}
use Rattle.frame_paints.specs.Parts.{SameBetween}
use Rattle.frame_paints.proofs.compare.last_row.Given as goal

abbrev pub invariant-loop-done : goal.invariant-loop-done
invariant-loop-done l = SameBetween l.a l.b l.x (l.x + l.n) (l.bottom - l.done) l.bottom
