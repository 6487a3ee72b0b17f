use Rattle.frame_read.proofs.Filling.{filled_more}
use Rattle.frame_read.proofs.pixels.fill.Goals as goal

pub loop-filled-preserved : goal.loop-filled-preserved
loop-filled-preserved g c =
    filled_more c.loop-filled.filled c.in_ok-count.count c.loop-filled.out c.read.new.out (g.S.Source.left c.args.source.now) (g.S.Source.left c.loop-filled.source) (g.S.Source.left c.read.new.self)
    _ _ (g.S.Source.faults c.read.new.self) c.loop-filled.invariant c.read.auto.out c.in_ok-count.ensures.bound c.in_ok-count.ensures.taken c.in_ok-count.ensures.cause
