use Rattle.h265_laws.proofs.each_code_is_read.Goals as goal
use Rattle.h265_model.proofs.BitLaws.{read-ue}

pub returns : goal.returns
returns c = read-ue
