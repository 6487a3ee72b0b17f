use Rattle.std.proofs.Common.{◌≡◌, ◌+◌, ◌<◌, length, ◌++◌, true}
use Rattle.std.specs.Vec.Iter.{into_iter_items, into_iter_len}
use Rattle.row_workers.specs.AtOnce.{AreGathered}
use Rattle.row_workers.proofs.at_once.gather.Given as goal

abbrev pub invariant-loop-worker : goal.invariant-loop-worker
invariant-loop-worker g l = record {
  whole : l.yielded ++ into_iter_items l.worker-iterator ≡ l.fn.workers.items;
  counted : into_iter_len l.worker-iterator ≡ length (into_iter_items l.worker-iterator);
  board : l.seat.table ≡ l.board;
  weight : l.seat.knows.weight ≡ l.fn.seat.knows.weight + length l.yielded;
  want : l.seat.knows.want ≡ l.fn.seat.knows.want;
  give : l.seat.knows.give ≡ l.fn.seat.knows.give;
  met : 0 < length l.yielded → l.seat.knows.met_none ≡ true;
  long : length l.rows.items ≡ length l.fn.rows.items;
  rows : AreGathered l.seat.knows l.rows.items;
}
