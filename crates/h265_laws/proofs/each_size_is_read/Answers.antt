use Rattle.h265_laws.proofs.each_size_is_read.Goals as goal
use Rattle.h265_laws.proofs.ParamLaws.{read_params-param_units}

pub returns : goal.returns
returns c = read_params-param_units
