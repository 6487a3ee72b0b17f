use Rattle.std.proofs.Common.{ℕ, ◌<◌}
use Rattle.px_plane.specs.Planes.{picture_of}
use Rattle.vector_search.specs.Copies.{AreSameRows}
use Rattle.vector_search.proofs.compare.is_same_square.Given as goal

abbrev pub invariant-loop-component : goal.invariant-loop-component
invariant-loop-component l =
    (c : ℕ) → c < l.component → AreSameRows (picture_of l.last) (picture_of l.current) c l.from.0 l.from.1 l.to.0 l.to.1 l.n l.n
