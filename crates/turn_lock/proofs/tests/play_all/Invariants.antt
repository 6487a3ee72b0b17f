use Rattle.std.proofs.Common.{◌≡◌}
use Rattle.turn_lock.specs.Turns.{Owns}
use Rattle.turn_lock.specs.Standing.{IsAtTurn}
use Rattle.turn_lock.proofs.tests.play_all.Given as goal

abbrev pub invariant-loop-index : goal.invariant-loop-index
invariant-loop-index g l = record {
  turn : IsAtTurn l.turn l.pass;
  owner : Owns l.pass.knows l.client;
  share : (l.pass.knows.weight ≡ l.fn.pass.knows.weight) × (l.pass.knows.passes ≡ l.fn.pass.knows.passes);
}
