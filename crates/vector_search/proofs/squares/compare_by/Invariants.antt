use Rattle.std.proofs.Common.{◌≡◌, ◌+◌, ◌*◌, length}
use Rattle.px_plane.specs.Planes.{picture_of}
use Rattle.vector_search.specs.Copies.{TellsFirst}
use Rattle.vector_search.proofs.squares.compare_by.Given as goal

abbrev pub invariant-loop-k : goal.invariant-loop-k
invariant-loop-k l = record {
  long : length l.equal ≡ 4112;
  tells : TellsFirst l.equal (picture_of l.last) (picture_of l.current) l.current.size l.x l.y (16 * l.number + l.k);
}
