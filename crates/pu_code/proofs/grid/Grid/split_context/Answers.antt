use Rattle.std.proofs.Common.{ap, ◌∙◌}
use Rattle.h265_model.specs.Tree as tree
use Rattle.pu_code.specs.Cells.{is_smaller}
use Rattle.pu_code.proofs.Neighbours.{smaller_is, byte_is, split_is}
use Rattle.pu_code.proofs.grid.Grid.split_context.Goals as goal

pub returns-clause-value : goal.returns-clause-value
returns-clause-value c = λ leaves stands.
    let block = c.args.block in
    split_is leaves block c.is_smaller-left.result c.is_smaller-above.result c.from.result c.from-2.result
    (c.is_smaller-left.ensures ∙ (ap (is_smaller block.log2) (c.left_of.ensures.value leaves stands) ∙ smaller_is block.log2 (tree.left_of leaves block.x block.y)))
    (c.is_smaller-above.ensures ∙ (ap (is_smaller block.log2) (c.above.ensures.value leaves stands) ∙ smaller_is block.log2 (tree.above leaves block.x block.y)))
    (c.from.ensures ∙ byte_is c.is_smaller-left.result) (c.from-2.ensures ∙ byte_is c.is_smaller-above.result)
