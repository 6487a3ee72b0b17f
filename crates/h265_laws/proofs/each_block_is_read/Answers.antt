use Rattle.h265_laws.proofs.each_block_is_read.Goals as goal
use Rattle.h265_laws.proofs.ResidualRows.{residual_law}

pub returns : goal.returns
returns c = residual_law
