use Rattle.px_plane.specs.Planes.{picture_of}
use Rattle.vector_search.specs.Copies.{AreSameRows}
use Rattle.vector_search.proofs.compare.is_same_plane.Given as goal

abbrev pub invariant-loop-j : goal.invariant-loop-j
invariant-loop-j l = AreSameRows (picture_of l.last) (picture_of l.current) l.component l.from.0 l.from.1 l.to.0 l.to.1 l.n l.j
