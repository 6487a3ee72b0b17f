use Rattle.std.proofs.Common.{◌*◌}
use Rattle.px_plane.specs.Planes.{picture_of}
use Rattle.intra_refs.specs.Neighbours.{neighbour, AreMissing}
use Rattle.intra_refs.proofs.search.first_left.Given as goal

abbrev pub invariant-loop-part : goal.invariant-loop-part
invariant-loop-part l = AreMissing (neighbour l.picture.size (picture_of l.picture) l.component l.block) 0 (8 * l.part)
