use Rattle.std.proofs.Common.{◌≡◌, drop}
use Rattle.edges.specs.MemoryFiles.{is_listed}
use Rattle.edges.proofs.memory_shelf.is_failing.Given as goal

abbrev pub invariant-loop-number : goal.invariant-loop-number
invariant-loop-number l = is_listed l.failing l.call ≡ is_listed (drop l.number-index l.failing) l.call
