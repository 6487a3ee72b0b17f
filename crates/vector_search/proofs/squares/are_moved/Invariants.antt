use Rattle.std.proofs.Common.{◌≡◌, ℕ, ◌+◌, ◌*◌, ◌<◌, get_or, true, false}
use Rattle.vector_search.specs.Copies.{AreAllMoved}
use Rattle.vector_search.proofs.squares.are_moved.Given as goal

abbrev pub invariant-loop-v : goal.invariant-loop-v
invariant-loop-v l = AreAllMoved l.equal l.number l.i l.j l.side l.v

abbrev pub invariant-loop-u : goal.invariant-loop-u
invariant-loop-u l =
    AreAllMoved l.equal l.number l.i l.j l.side l.v
    × ((u : ℕ) → u < l.u → get_or l.equal (16 * l.number + (4 * (l.j + l.v) + (l.i + u))) false ≡ true)
