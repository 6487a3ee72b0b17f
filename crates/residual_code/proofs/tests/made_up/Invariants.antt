use Rattle.std.proofs.Common.{◌≡◌}
use Rattle.residual_code.proofs.tests.made_up.Given as goal

abbrev pub invariant-loop-place : goal.invariant-loop-place
invariant-loop-place l = l.block.log2 ≡ l.log2
