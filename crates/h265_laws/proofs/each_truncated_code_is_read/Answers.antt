use Rattle.h265_laws.proofs.each_truncated_code_is_read.Goals as goal
use Rattle.h265_laws.proofs.Reading.{reads_tr_bypass}

pub returns : goal.returns
returns c = reads_tr_bypass
