use Rattle.h265_laws.proofs.each_mode_is_read.Goals as goal
use Rattle.h265_laws.proofs.ModesLaw.{mode_law}

pub returns : goal.returns
returns c = mode_law
