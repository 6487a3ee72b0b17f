use Rattle.cabac_enc.proofs.Lists.{Raises}
use Rattle.cabac_enc.proofs.bits.raise.Given as goal

abbrev pub invariant-loop-place : goal.invariant-loop-place
invariant-loop-place l = Raises l.place l.count l.fn.list.items l.list.items

abbrev pub decreases-loop-place : goal.decreases-loop-place
decreases-loop-place l = l.place
