use Rattle.unit_laws.proofs.each_coded_unit_is_fit.Goals as goal
use Rattle.unit_laws.proofs.UnitRows.{coded_are_fit}

pub returns : goal.returns
returns c = coded_are_fit
