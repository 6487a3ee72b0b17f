use Rattle.std.proofs.Common.{◌≡◌, false}
use Rattle.row_board.proofs.tests.work.Given as goal

abbrev pub invariant-loop : goal.invariant-loop
invariant-loop g l = record {
  board : l.seat.table ≡ l.board;
  wide : l.seat.knows.width ≡ 2;
  goes_on : l.seat.knows.met_none ≡ false;
  share : l.seat.knows.weight ≡ l.fn.seat.knows.weight;
}
