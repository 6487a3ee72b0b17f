use Rattle.std.proofs.Common.{◌-◌}
use Rattle.frame_read.proofs.FrameRows.{AreRead}
use Rattle.frame_read.proofs.pixels.read_rows.Given as goal

abbrev pub invariant-loop-y : goal.invariant-loop-y
invariant-loop-y g l = AreRead l.initial.picture l.y l.picture (g.S.Source.left l.initial.source) (g.S.Source.left l.source) (g.S.Source.faults l.initial.source) (g.S.Source.faults l.source)

abbrev pub decreases-loop-y : goal.decreases-loop-y
decreases-loop-y g l = l.h - l.y
