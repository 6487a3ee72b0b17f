use Rattle.h265_laws.proofs.each_golomb_code_is_read.Goals as goal
use Rattle.h265_laws.proofs.Reading.{reads_eg}

pub returns : goal.returns
returns c = reads_eg
