use Rattle.std.proofs.Common.{◌≡◌}
use Rattle.motion_search.proofs.tests.picture.Given as goal

abbrev pub invariant-loop-y : goal.invariant-loop-y
invariant-loop-y l = l.picture.size ≡ record { w = 72; h = 40 }
