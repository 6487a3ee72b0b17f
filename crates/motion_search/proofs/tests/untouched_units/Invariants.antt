use Rattle.std.proofs.Common.{◌≡◌}
use Rattle.motion_search.proofs.tests.untouched_units.Given as goal

abbrev pub invariant-loop-ctu : goal.invariant-loop-ctu
invariant-loop-ctu g l = l.grid.size ≡ record { w = 72; h = 40 }
