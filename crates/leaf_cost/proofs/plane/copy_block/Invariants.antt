use Rattle.std.proofs.Common.{◌≡◌, ◌+◌, ◌*◌, take}
use Rattle.px_plane.specs.Planes.{picture_of}
use Rattle.intra_predict.proofs.Squares.{first_rows}
use Rattle.leaf_cost.proofs.plane.copy_block.Given as goal

abbrev pub invariant-loop-j : goal.invariant-loop-j
invariant-loop-j l = take (l.j * l.n) l.out ≡ first_rows l.n (λ i j. picture_of l.picture l.component (l.x + i) (l.y + j)) l.j
