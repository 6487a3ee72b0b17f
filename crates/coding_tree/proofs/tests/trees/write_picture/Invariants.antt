use Rattle.std.proofs.Common.{◌≡◌}
use Rattle.coding_tree.proofs.tests.trees.write_picture.Given as goal

abbrev pub invariant-loop-ctu : goal.invariant-loop-ctu
invariant-loop-ctu g l = l.grid.size ≡ l.size
