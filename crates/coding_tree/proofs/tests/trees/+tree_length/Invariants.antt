use Rattle.coding_tree.proofs.tests.trees.+tree_length.Given as goal

abbrev pub decreases-tree_length : goal.decreases-tree_length
decreases-tree_length l = l.depth
