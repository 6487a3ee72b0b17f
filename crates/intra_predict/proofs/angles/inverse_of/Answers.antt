use Rattle.std.proofs.Common.{◌-◌, refl}
use Rattle.h265_model.specs.Predict.{inverse_angle}
use Rattle.intra_predict.proofs.Leaning.{inverse_most}
use Rattle.intra_predict.proofs.angles.inverse_of.Goals as goal

pub returns-clause-value : goal.returns-clause-value
unfolding inverse_angle
returns-clause-value c = refl

pub returns-clause-most : goal.returns-clause-most
returns-clause-most c = inverse_most (c.args.mode - 11)
