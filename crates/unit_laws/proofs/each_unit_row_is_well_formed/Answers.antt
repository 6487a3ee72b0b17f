use Rattle.unit_laws.proofs.each_unit_row_is_well_formed.Goals as goal
use Rattle.unit_laws.proofs.UnitForm.{rows_are_well_formed}

pub returns : goal.returns
returns c = rows_are_well_formed
