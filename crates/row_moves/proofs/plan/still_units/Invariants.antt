use Rattle.std.proofs.Common.{◌≡◌, map, take}
use Rattle.h265_model.specs.Motion.{still}
use Rattle.row_moves.proofs.plan.still_units.Given as goal

abbrev pub invariant-loop-leaf : goal.invariant-loop-leaf
invariant-loop-leaf l = l.units ≡ map still (take l.leaf-index l.leaves)
