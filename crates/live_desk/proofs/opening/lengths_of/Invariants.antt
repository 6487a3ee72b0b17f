use Rattle.std.proofs.Common.{◌≡◌, length, map, take}
use Rattle.live_desk.proofs.opening.lengths_of.Given as goal

abbrev pub invariant-loop-client : goal.invariant-loop-client
invariant-loop-client l = l.lengths.items ≡ map length (take l.client l.scripts)
