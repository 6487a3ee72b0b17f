use Rattle.frame_read.proofs.Calls.{AreKept}
use Rattle.frame_read.proofs.input.read_some.Given as goal

-- no byte was taken
abbrev pub invariant-loop : goal.invariant-loop
invariant-loop g l = AreKept (g.R.Read.remaining l.initial.reader) (g.R.Read.remaining l.reader)
