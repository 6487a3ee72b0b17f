use Rattle.std.proofs.Common.{ap, ◌∙◌}
use Rattle.h265_model.specs.Tree as tree
use Rattle.pu_code.specs.Cells.{is_copy}
use Rattle.pu_code.proofs.Neighbours.{copy_is, byte_is, skip_is}
use Rattle.pu_code.proofs.grid.Grid.skip_context.Goals as goal

pub returns-clause-value : goal.returns-clause-value
returns-clause-value c = λ leaves stands.
    skip_is leaves c.args.x c.args.y c.is_copy.result c.is_copy-2.result c.from.result c.from-2.result
    (c.is_copy.ensures ∙ (ap is_copy (c.left_of.ensures.value leaves stands) ∙ copy_is (tree.left_of leaves c.args.x c.args.y)))
    (c.is_copy-2.ensures ∙ (ap is_copy (c.above.ensures.value leaves stands) ∙ copy_is (tree.above leaves c.args.x c.args.y))) (c.from.ensures ∙ byte_is c.is_copy.result) (c.from-2.ensures ∙ byte_is c.is_copy-2.result)
