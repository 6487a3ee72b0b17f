use Rattle.h265_laws.proofs.each_head_is_read.Goals as goal
use Rattle.h265_laws.proofs.HeadLaws.{read_head-head_bits}

pub returns : goal.returns
returns c = read_head-head_bits
