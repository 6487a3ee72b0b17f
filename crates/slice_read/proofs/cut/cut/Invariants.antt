use Rattle.slice_read.proofs.CutReads.{IsCutTo}
use Rattle.slice_read.proofs.cut.cut.Given as goal

abbrev pub invariant-loop-left : goal.invariant-loop-left
invariant-loop-left l = IsCutTo l.n l.bytes l.p l.q l.left l.at

abbrev pub decreases-loop-left : goal.decreases-loop-left
decreases-loop-left l = l.left
