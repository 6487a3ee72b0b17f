use Rattle.std.proofs.Common.{◌≡◌}
use Rattle.unit_choice.proofs.tests.noise.Given as goal

abbrev pub invariant-loop-y : goal.invariant-loop-y
invariant-loop-y l = l.picture.size ≡ record { w = 94; h = 70 }
