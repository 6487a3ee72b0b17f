use Rattle.std.proofs.Common.{arith}
use Rattle.canvas.proofs.Sums.{sums_all}
use Rattle.canvas.proofs.levels.add_levels.Goals as goal

pub returns : goal.returns
returns c = sums_all _ _ _ (c.loop-i.auto.samples) c.requires (λ k h. c.loop-i.invariant.0 k (omega arith))
