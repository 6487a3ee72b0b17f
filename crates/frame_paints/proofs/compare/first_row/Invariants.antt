use Rattle.std.proofs.Common.{◌+◌}
use Rattle.frame_paints.specs.Parts.{SameBetween}
use Rattle.frame_paints.proofs.compare.first_row.Given as goal

abbrev pub invariant-loop-y : goal.invariant-loop-y
invariant-loop-y l = SameBetween l.a l.b l.x (l.x + l.n) l.top l.y
