use Rattle.std.proofs.Common.{◌≡◌, false}
use Rattle.turn_lock.specs.Turns.{Begins}
use Rattle.live_desk.specs.Desks.{IsSameClient}
use Rattle.live_desk.specs.Turned.{IsKept}
use Rattle.recorder.proofs.clients.play_all.Given as goal

abbrev pub invariant-loop : goal.invariant-loop
invariant-loop g l = record {
  can_next : (goal.iterator-loop g).can_next l.iterator';
  is_finite : (goal.iterator-loop g).is_finite l.iterator';
  same : IsSameClient l.initial.pass l.pass;
  kept : IsKept l.initial.pass.knows l.pass.knows;
  begins : Begins l.initial.pass.knows.seen l.pass.knows.seen;
  runs : l.initial.pass.stopped ≡ false → l.pass.stopped ≡ false;
}
