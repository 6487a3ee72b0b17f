use Rattle.h265_model.specs.Tree.{moving}
use Rattle.row_sequence.proofs.Definitions.{are_codes}
use Rattle.row_sequence.proofs.each_row_of_moves.Goals as goal

pub returns : goal.returns
returns c = λ kind items size units row. are_codes kind (moving items) size units row
