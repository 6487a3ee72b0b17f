use Rattle.std.proofs.Common.{◌≡◌, drop}
use Rattle.edges.specs.Counts.{taken_at}
use Rattle.edges.proofs.memory.failing_at.Given as goal

abbrev pub invariant-loop-number : goal.invariant-loop-number
invariant-loop-number l = taken_at l.failing l.call ≡ taken_at (drop l.number-index l.failing) l.call
