use Rattle.std.proofs.Common.{below_more}
use Rattle.frame_paints.proofs.Parts.{row_has}
use Rattle.frame_paints.proofs.pieces.has_sample.Goals as goal

pub loop-y-preserved : goal.loop-y-preserved
loop-y-preserved c =
    below_more _ _ c.loop-y.invariant
    (λ h x hl hr. row_has c.args.frame.now c.args.component c.args.piece.x c.loop-y.y c.args.piece.w c.args.sample c.row.result.now c.row.ensures.samples c.row.ensures.count (c.is_all.ensures.0 c.if-not-is_all.false) x hl hr)
