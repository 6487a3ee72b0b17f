use Rattle.h265_laws.proofs.each_list_is_read_back.Goals as goal
use Rattle.h265_laws.proofs.Parts.{law}

pub returns : goal.returns
returns c = law
