use Rattle.read_laws.proofs.each_read_segment_is_lawful.Goals as goal
use Rattle.read_laws.proofs.ReadRows.{segments_are_lawful}

pub returns : goal.returns
returns c = segments_are_lawful
