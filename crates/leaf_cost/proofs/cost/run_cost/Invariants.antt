use Rattle.std.proofs.Common.{◌≡◌, ◌*◌, ◌≤◌, sum_by, take}
use Rattle.h265_model.specs.Tree.{differences}
use Rattle.h265_model.specs.Choice.{level_cost}
use Rattle.leaf_cost.proofs.cost.run_cost.Given as goal

abbrev pub invariant-loop-i : goal.invariant-loop-i
invariant-loop-i l = (l.sum ≡ sum_by level_cost (differences (take l.i l.block) (take l.i l.guess))) × (l.sum ≤ 17 * l.i)
