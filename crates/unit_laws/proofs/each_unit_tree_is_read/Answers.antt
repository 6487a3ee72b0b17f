use Rattle.unit_laws.proofs.each_unit_tree_is_read.Goals as goal
use Rattle.unit_laws.proofs.UnitTreeLaw.{trees_are_read}

pub returns : goal.returns
returns c = trees_are_read
