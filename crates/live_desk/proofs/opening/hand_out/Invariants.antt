use Rattle.std.proofs.Common.{◌≡◌, ◌++◌, length, vec_capacity}
use Rattle.live_desk.specs.Opening.{AreClients}
use Rattle.live_desk.proofs.opening.hand_out.Given as goal

abbrev pub invariant-loop-pass : goal.invariant-loop-pass
invariant-loop-pass l = record {
  split : l.fn.passes.items ≡ l.yielded ++ l.pass-iterator.rest.items;
  clients : AreClients l.fn.passes.items (length l.yielded) l.clients.items;
  room : vec_capacity l.clients ≡ vec_capacity l.fn.clients;
}
