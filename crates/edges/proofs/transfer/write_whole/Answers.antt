use Rattle.edges.proofs.Transfers.{took_more, took_same}
use Rattle.edges.proofs.transfer.write_whole.Goals.{in-Ok, in-Err}
use Rattle.edges.proofs.transfer.write_whole.Goals as goal

pub loop-preserved : goal.loop-preserved
loop-preserved g c = elim c.match-write.branch [
  | in-Ok w ↦ rw w.rest-is (took_more _ _ _ _ _ w.in-Ok.count w.in-Ok.ensures.bytes c.loop.invariant)
  | in-Err w ↦ rw w.rest-is (took_same _ _ _ _ _ w.in-Err.ensures.bytes c.loop.invariant)
]
