use Rattle.unit_laws.proofs.each_row_is_still.Goals as goal
use Rattle.unit_laws.proofs.StillLaw.{rows_are_still}

pub returns : goal.returns
returns c = rows_are_still
