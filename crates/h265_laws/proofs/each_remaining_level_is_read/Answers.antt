use Rattle.h265_laws.proofs.each_remaining_level_is_read.Goals as goal
use Rattle.h265_laws.proofs.Reading.{reads_remaining}

pub returns : goal.returns
returns c = reads_remaining
