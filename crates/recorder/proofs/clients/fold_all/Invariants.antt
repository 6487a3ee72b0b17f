use Rattle.std.proofs.Common.{◌≡◌, ◌++◌}
use Rattle.std.specs.Vec.Iter.{into_iter_items}
use Rattle.recorder.specs.Players.{AreFolded}
use Rattle.recorder.proofs.clients.fold_all.Given as goal

abbrev pub invariant-loop-client : goal.invariant-loop-client
invariant-loop-client l = record {
  can_next : (goal.iterator-loop-client).can_next l.client-iterator;
  is_finite : (goal.iterator-loop-client).is_finite l.client-iterator;
  items : l.yielded ++ into_iter_items l.client-iterator ≡ l.fn.clients.items;
  folded : AreFolded l.fn.recorder l.yielded l.whole;
}
