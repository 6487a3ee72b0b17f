use Rattle.std.proofs.Common.{arith, rules}
use Rattle.leaf_cost.proofs.Levels.{level_cost-leading}
use Rattle.leaf_cost.proofs.cost.size_cost.Goals as goal

pub returns-else-size-eq0-clause-value : goal.returns-else-size-eq0-clause-value
returns-else-size-eq0-clause-value c = level_cost-leading c.args.size (omega arith) (search rules)
