use Rattle.unit_laws.proofs.each_unit_is_read.Goals as goal
use Rattle.unit_laws.proofs.UnitLaw.{units_are_read}

pub returns : goal.returns
returns c = units_are_read
