use Rattle.std.proofs.Common.{below_more}
use Rattle.frame_paints.proofs.Parts.{row_equal}
use Rattle.frame_paints.proofs.compare.row_same.Goals as goal

pub loop-component-preserved : goal.loop-component-preserved
loop-component-preserved c =
    below_more _ _ c.loop-component.invariant
    (row_equal c.args.a.now c.args.b.now c.loop-component.component c.args.x c.args.y c.args.n c.row.result.now c.row-in-loop-component.result.now c.row.ensures.samples c.row-in-loop-component.ensures.samples c.row.ensures.count (c.is_same.ensures.0 c.if-not-is_same.false))
