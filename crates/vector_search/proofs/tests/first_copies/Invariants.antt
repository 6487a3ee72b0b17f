use Rattle.std.proofs.Common.{◌≡◌}
use Rattle.vector_search.proofs.tests.first_copies.Given as goal

abbrev pub invariant-loop-n : goal.invariant-loop-n
invariant-loop-n g l = l.search ≡ l.initial.search
