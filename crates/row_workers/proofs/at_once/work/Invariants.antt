use Rattle.std.proofs.Common.{◌≡◌, false}
use Rattle.row_workers.specs.AtOnce.{HasCoded}
use Rattle.row_workers.proofs.at_once.work.Given as goal

abbrev pub invariant-loop : goal.invariant-loop
invariant-loop g l = record {
  can_next : (goal.iterator-loop g).can_next l.iterator';
  is_finite : (goal.iterator-loop g).is_finite l.iterator';
  table : l.worker.seat.table ≡ l.board;
  weight : l.worker.seat.knows.weight ≡ l.initial.worker.seat.knows.weight;
  width : l.worker.seat.knows.width ≡ l.initial.worker.seat.knows.width;
  want : l.worker.seat.knows.want ≡ l.initial.worker.seat.knows.want;
  give : l.worker.seat.knows.give ≡ l.initial.worker.seat.knows.give;
  goes_on : l.worker.seat.knows.met_none ≡ false;
  coded : l.worker.failed ≡ false → HasCoded l.worker.seat.knows l.worker.rows.items;
}
