use Rattle.std.proofs.Common.{arith, ◌∙◌, ap, pos}
use Rattle.h265_model.specs.Choice.{level_cost}
use Rattle.leaf_cost.proofs.Levels.{cost-more}
use Rattle.leaf_cost.proofs.cost.run_cost.Goals as goal

pub loop-i-preserved : goal.loop-i-preserved
loop-i-preserved c =
    (cost-more c.args.block.now c.args.guess.now c.loop-i.i c.loop-i.sum c.size_cost-sum.result (omega arith) (omega arith) c.loop-i.invariant.0 (c.size_cost-sum.ensures.value ∙ ap (λ n. level_cost (pos n)) c.abs_diff.ensures), omega arith)
