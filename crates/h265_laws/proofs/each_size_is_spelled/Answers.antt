use Rattle.h265_laws.proofs.each_size_is_spelled.Goals as goal
use Rattle.h265_laws.proofs.ParamSpellingLaws.{read_params-is}

pub returns : goal.returns
returns c = read_params-is
