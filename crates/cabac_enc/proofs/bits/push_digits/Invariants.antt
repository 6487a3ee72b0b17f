use Rattle.cabac_enc.proofs.Lists.{Pushed}
use Rattle.cabac_enc.proofs.bits.push_digits.Given as goal

abbrev pub invariant-loop-left : goal.invariant-loop-left
invariant-loop-left l = Pushed l.left l.count l.number l.fn.list.items l.list.items

abbrev pub decreases-loop-left : goal.decreases-loop-left
decreases-loop-left l = l.left
