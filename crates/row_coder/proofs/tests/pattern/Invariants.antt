use Rattle.std.proofs.Common.{◌≡◌}
use Rattle.row_coder.proofs.tests.pattern.Given as goal

abbrev pub invariant-loop-y : goal.invariant-loop-y
invariant-loop-y l = l.picture.size ≡ record { w = 72; h = 40 }
