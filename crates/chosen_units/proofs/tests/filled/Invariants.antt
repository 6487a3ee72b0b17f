use Rattle.std.proofs.Common.{◌≡◌}
use Rattle.chosen_units.proofs.tests.filled.Given as goal

abbrev pub invariant-loop-x : goal.invariant-loop-x
invariant-loop-x l = l.grid.size ≡ record { w = 72; h = 40 }
