use Rattle.unit_laws.proofs.each_unit_row_is_substream.Goals as goal
use Rattle.unit_laws.proofs.UnitLength.{rows_are_substreams}

pub returns : goal.returns
returns c = rows_are_substreams
