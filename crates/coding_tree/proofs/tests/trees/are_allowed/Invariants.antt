use Rattle.std.proofs.Common.{take}
use Rattle.h265_model.specs.Tree.{AreAllowed}
use Rattle.coding_tree.proofs.tests.trees.are_allowed.Given as goal

abbrev pub invariant-loop-leaf : goal.invariant-loop-leaf
invariant-loop-leaf l = AreAllowed l.kind (take l.leaf-index l.leaves)
