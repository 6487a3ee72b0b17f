use Rattle.std.proofs.Common.{◌≡◌, ◌-◌, length}
use Rattle.std.specs.List.{All}
use Rattle.row_workers.specs.AtOnce.{IsNewcomer}
use Rattle.row_workers.proofs.at_once.seat_workers.Given as goal

abbrev pub invariant-loop : goal.invariant-loop
invariant-loop g l = record {
  board : l.seat.table ≡ l.board;
  knows : l.seat.knows ≡ record l.fn.seat.knows { weight = l.fn.seat.knows.weight - l.counter };
  many : length l.workers.items ≡ l.counter;
  each : All (IsNewcomer l.board l.fn.seat.knows) l.workers.items;
}
