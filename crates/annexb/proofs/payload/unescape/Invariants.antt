use Rattle.std.proofs.Common.{◌≡◌, ◌++◌, length}
use Rattle.h265_model.specs.NalUnits.{unescape}
use Rattle.annexb.proofs.payload.unescape.Given as goal

-- what was taken, followed by what the rest gives, is what all gives
abbrev pub invariant-loop-rest : goal.invariant-loop-rest
invariant-loop-rest l = l.out.items ++ unescape l.rest ≡ unescape l.fn.bytes

abbrev pub decreases-loop-rest : goal.decreases-loop-rest
decreases-loop-rest l = length l.rest
