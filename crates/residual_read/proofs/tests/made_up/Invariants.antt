use Rattle.std.proofs.Common.{◌≡◌}
use Rattle.residual_read.proofs.tests.made_up.Given as goal

abbrev pub invariant-loop : goal.invariant-loop
invariant-loop l = l.block.log2 ≡ l.log2
