use Rattle.std.proofs.Common.{◌-◌, length}
use Rattle.frame_read.proofs.Filling.{IsFilledTo}
use Rattle.frame_read.proofs.pixels.fill.Given as goal

abbrev pub invariant-loop-filled : goal.invariant-loop-filled
invariant-loop-filled g l = IsFilledTo l.filled l.out (g.S.Source.left l.initial.source) (g.S.Source.left l.source) (g.S.Source.faults l.initial.source) (g.S.Source.faults l.source)

abbrev pub decreases-loop-filled : goal.decreases-loop-filled
decreases-loop-filled g l = length l.out - l.filled
