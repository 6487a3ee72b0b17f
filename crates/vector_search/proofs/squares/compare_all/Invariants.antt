use Rattle.std.proofs.Common.{◌≡◌, ◌*◌, length}
use Rattle.px_plane.specs.Planes.{picture_of}
use Rattle.vector_search.specs.Copies.{TellsFirst}
use Rattle.vector_search.proofs.squares.compare_all.Given as goal

abbrev pub invariant-loop-number : goal.invariant-loop-number
invariant-loop-number l = record {
  long : length l.squares.equal ≡ 4112;
  tells : TellsFirst l.squares.equal (picture_of l.last) (picture_of l.current) l.current.size l.x l.y (16 * l.number);
}
