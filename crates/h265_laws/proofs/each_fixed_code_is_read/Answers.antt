use Rattle.h265_laws.proofs.each_fixed_code_is_read.Goals as goal
use Rattle.h265_laws.proofs.Reading.{reads_fl}

pub returns : goal.returns
returns c = reads_fl
