use Rattle.h265_model.specs.ParamSets.{vps_front, profile_tier_level, vps_back}
use Rattle.param_sets.proofs.reading.read_vps.Goals as goal

pub returns : goal.returns
unfolding vps_front profile_tier_level vps_back
returns c = c.read_fixed_set.ensures
