use Rattle.std.proofs.Common.{◌≡◌, ◌+◌}
use Rattle.px_plane.specs.Planes.{picture_of}
use Rattle.row_coder.proofs.Differences.{AreRows}
use Rattle.row_coder.proofs.predicted.subtract_block.Given as goal

abbrev pub invariant-loop-y : goal.invariant-loop-y
invariant-loop-y l = record {
  side : l.out.log2 ≡ l.leaf.block.log2;
  rows : AreRows l.n (λ x y. picture_of l.picture l.component (l.leaf.block.x + x) (l.leaf.block.y + y)) l.guess l.out.levels l.y;
}
