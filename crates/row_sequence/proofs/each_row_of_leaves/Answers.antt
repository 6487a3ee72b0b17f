use Rattle.h265_model.specs.Tree.{leaf_units}
use Rattle.row_sequence.proofs.Definitions.{are_codes}
use Rattle.row_sequence.proofs.each_row_of_leaves.Goals as goal

pub returns : goal.returns
returns c = λ kind source size leaves row. are_codes kind (leaf_units kind source) size leaves row
