use Rattle.std.proofs.Common.{◌≡◌}
use Rattle.benchmark.proofs.levels.block_of.Given as goal

abbrev pub invariant-loop-place : goal.invariant-loop-place
invariant-loop-place l = l.block.log2 ≡ 5
