use Rattle.std.proofs.Common.{◌≡◌, ◌+◌, ◌*◌}
use Rattle.h265_model.specs.Plain.{side}
use Rattle.px_plane.specs.Planes.{picture_of}
use Rattle.intra_refs.specs.Neighbours.{neighbour, carried, IsFilled}
use Rattle.intra_refs.proofs.line.fill_row_above.Given as goal

abbrev pub invariant-loop-part : goal.invariant-loop-part
invariant-loop-part l = record {
  filled : IsFilled l.line l.first (λ i. neighbour l.picture.size (picture_of l.picture) l.component l.block (2 * side l.block + 1 + i)) (8 * l.part);
  carried : l.before ≡ carried l.first (λ i. neighbour l.picture.size (picture_of l.picture) l.component l.block (2 * side l.block + 1 + i)) (8 * l.part);
}
