use Rattle.std.proofs.Common.{◌≡◌}
use Rattle.block_choice.proofs.tests.made_up.Given as goal

abbrev pub invariant-loop-y : goal.invariant-loop-y
invariant-loop-y l = l.picture.size ≡ record { w = 40; h = 40 }
