use Rattle.std.proofs.Common.{◌-◌}
use Rattle.intra_predict.proofs.Leaning.{lean_is, lean_most}
use Rattle.intra_predict.proofs.angles.lean_of.Goals as goal

pub returns-clause-value : goal.returns-clause-value
returns-clause-value c = lean_is c.args.mode c.requires.low c.requires.high

pub returns-clause-most : goal.returns-clause-most
returns-clause-most c = lean_most (c.args.mode - 2)
