use Rattle.std.proofs.Common.{◌≡◌}
use Rattle.row_board.specs.Standing.{IsSame}
use Rattle.row_workers.proofs.at_once.wait_for_above.Given as goal

abbrev pub invariant-loop : goal.invariant-loop
invariant-loop g l =
    (goal.iterator-loop g).can_next l.iterator' × (goal.iterator-loop g).is_finite l.iterator' × (l.seat.table ≡ l.initial.seat.table) × IsSame l.initial.seat.knows l.seat.knows × (l.seat.knows.rows ≡ l.initial.seat.knows.rows)
