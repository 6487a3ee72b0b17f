use Rattle.unit_laws.proofs.each_segment_is_still.Goals as goal
use Rattle.unit_laws.proofs.StillUnits.{segments_are_still}

pub returns : goal.returns
returns c = segments_are_still
