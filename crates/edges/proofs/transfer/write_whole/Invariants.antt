use Rattle.edges.proofs.Transfers.{TookFront}
use Rattle.edges.proofs.transfer.write_whole.Given as goal

abbrev pub invariant-loop : goal.invariant-loop
invariant-loop g l = TookFront (g.W.Write.contents l.initial.writer) (g.W.Write.contents l.writer) l.piece l.rest
