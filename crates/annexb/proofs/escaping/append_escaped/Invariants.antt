use Rattle.std.proofs.Common.{◌≡◌, ◌++◌, List, ℕ, length}
use Rattle.h265_model.specs.NalUnits.{escape}
use Rattle.annexb.proofs.escaping.append_escaped.Given as goal

-- what was appended, followed by the rest escaped, is the whole escaped
abbrev pub invariant-loop-out : goal.invariant-loop-out
invariant-loop-out l = (done : List ℕ) × (l.out.items ≡ l.initial.out.items ++ done) × (done ++ escape l.rest ≡ escape l.fn.bytes)

abbrev pub decreases-loop-out : goal.decreases-loop-out
decreases-loop-out l = length l.rest
