use Rattle.std.proofs.Common.{◌≡◌, take}
use Rattle.h265_model.specs.Tree.{differences}
use Rattle.row_coder.proofs.predicted.subtract_row.Given as goal

abbrev pub invariant-loop-i : goal.invariant-loop-i
invariant-loop-i l = take l.i l.out ≡ differences (take l.i l.samples) (take l.i l.guess)
