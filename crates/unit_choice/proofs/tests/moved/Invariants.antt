use Rattle.std.proofs.Common.{◌≡◌}
use Rattle.unit_choice.proofs.tests.moved.Given as goal

abbrev pub invariant-loop-k : goal.invariant-loop-k
invariant-loop-k l = l.now.size ≡ record { w = 94; h = 70 }
