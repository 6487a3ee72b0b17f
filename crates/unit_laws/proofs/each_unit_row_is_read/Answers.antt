use Rattle.unit_laws.proofs.each_unit_row_is_read.Goals as goal
use Rattle.unit_laws.proofs.UnitRows.{rows_are_read}

pub returns : goal.returns
returns c = rows_are_read
