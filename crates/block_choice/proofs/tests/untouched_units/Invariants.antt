use Rattle.std.proofs.Common.{◌≡◌}
use Rattle.block_choice.proofs.tests.untouched_units.Given as goal

abbrev pub invariant-loop-ctu : goal.invariant-loop-ctu
invariant-loop-ctu g l = l.now.size ≡ record { w = 40; h = 40 }
