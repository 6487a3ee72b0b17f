use Rattle.h265_model.specs.ParamSets.{sps_front, profile_tier_level, sps_formats}
use Rattle.param_sets.proofs.reading.read_sps_front.Goals as goal

pub returns : goal.returns
unfolding sps_front profile_tier_level sps_formats
returns c = c.read_fields.ensures
