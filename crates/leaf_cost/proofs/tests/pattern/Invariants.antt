use Rattle.std.proofs.Common.{◌≡◌}
use Rattle.leaf_cost.proofs.tests.pattern.Given as goal

abbrev pub invariant-loop-y : goal.invariant-loop-y
invariant-loop-y l = l.picture.size ≡ record { w = 72; h = 56 }
