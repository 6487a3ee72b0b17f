use Rattle.cabac_bytes.specs.Pending.{PassesAllBut}
use Rattle.cabac_bytes.proofs.pending.PendingBytes.pass_all.Given as goal

abbrev pub invariant-loop-left : goal.invariant-loop-left
invariant-loop-left l = PassesAllBut l.left l.rest l.number l.count l.initial.self l.self

abbrev pub decreases-loop-left : goal.decreases-loop-left
decreases-loop-left l = l.left
