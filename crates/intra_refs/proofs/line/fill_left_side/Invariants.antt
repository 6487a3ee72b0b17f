use Rattle.std.proofs.Common.{◌≡◌, ◌*◌}
use Rattle.px_plane.specs.Planes.{picture_of}
use Rattle.intra_refs.specs.Neighbours.{neighbour, carried, IsFilled}
use Rattle.intra_refs.proofs.line.fill_left_side.Given as goal

abbrev pub invariant-loop-part : goal.invariant-loop-part
invariant-loop-part l = record {
  filled : IsFilled l.line l.first (neighbour l.picture.size (picture_of l.picture) l.component l.block) (8 * l.part);
  carried : l.before ≡ carried l.first (neighbour l.picture.size (picture_of l.picture) l.component l.block) (8 * l.part);
}
