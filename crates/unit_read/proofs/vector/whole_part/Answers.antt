use Rattle.std.proofs.Common.{◌∙◌, ap, rules, w32, w64}
use Rattle.std.proofs.lemmas.Int.{to_z-of_z}
use Rattle.h265_model.specs.Motion.{low_16}
use Rattle.unit_read.proofs.VectorReads.{whole_is, sum_as}
use Rattle.unit_read.proofs.vector.whole_part.Goals as goal

pub returns : goal.returns
returns c = whole_is c.args.predictor c.args.difference c.low_16.result c.quarter.result
    (c.low_16.ensures.value ∙ ap low_16 (to_z-of_z w64 c.in_quarters.result (search rules) ∙ sum_as c.args.predictor c.args.difference _ _ c.in_quarters.result (to_z-of_z w32 c.args.predictor (search rules)) (to_z-of_z w32 c.args.difference (search rules)) c.in_quarters.ensures)) c.quarter.ensures
