use Rattle.h265_model.specs.ParamSets.{sps_back}
use Rattle.param_sets.proofs.reading.read_sps_back.Goals as goal

pub returns : goal.returns
unfolding sps_back
returns c = c.read_fields.ensures
