use Rattle.std.proofs.Common.{◌≡◌}
use Rattle.motion_search.proofs.tests.set_all.Given as goal

abbrev pub invariant-loop-unit : goal.invariant-loop-unit
invariant-loop-unit l = l.grid.size ≡ record { w = 72; h = 40 }
