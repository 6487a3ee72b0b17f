use Rattle.std.proofs.Common.{ℕ, ◌<◌}
use Rattle.vector_search.specs.Copies.{AreAllMoved}
use Rattle.vector_search.proofs.squares.first_number.Given as goal

abbrev pub invariant-loop-number : goal.invariant-loop-number
invariant-loop-number l = (m : ℕ) → m < l.number → AreAllMoved l.equal m l.i l.j l.side l.side → ⊥
