use Rattle.std.proofs.Common.{◌≡◌, take}
use Rattle.pu_code.specs.Cells.{StandsFor}
use Rattle.row_coder.proofs.job.grid_above.Given as goal

abbrev pub invariant-loop-leaf : goal.invariant-loop-leaf
invariant-loop-leaf l = record {
  size : l.grid.size ≡ l.fn.size;
  set : StandsFor l.grid (take l.leaf-index l.above);
}
