use Rattle.read_laws.proofs.each_read_tree_is_lawful.Goals as goal
use Rattle.read_laws.proofs.ReadTrees.{trees_are_lawful}

pub returns : goal.returns
returns c = trees_are_lawful
