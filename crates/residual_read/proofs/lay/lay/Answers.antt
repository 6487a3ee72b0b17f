use Rattle.std.proofs.Common.{sym, ◌∙◌, arith}
use Rattle.residual_read.proofs.Laying.{laid_full}
use Rattle.residual_read.proofs.lay.lay.Goals as goal

pub returns-clause-levels : goal.returns-clause-levels
returns-clause-levels c = sym (c.loop-left.invariant.goes ∙ laid_full c.args.scan c.loop-left.out.log2 (c.args.sub.x, c.args.sub.y) c.args.mask c.args.values.now c.loop-left.next c.loop-left.left c.loop-left.out.levels (omega arith))
