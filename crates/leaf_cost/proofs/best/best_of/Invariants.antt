use Rattle.std.proofs.Common.{◌≡◌, length}
use Rattle.leaf_cost.specs.Costs.{block_cost, IsBestSoFar}
use Rattle.leaf_cost.proofs.best.best_of.Given as goal

abbrev pub invariant-loop-i : goal.invariant-loop-i
invariant-loop-i l = (IsBestSoFar l.best l.bound l.limit (λ mode. block_cost l.block mode l.log2) l.modes l.i) × (length l.scratch ≡ 1024)
