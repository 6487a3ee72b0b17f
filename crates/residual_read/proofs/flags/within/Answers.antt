use Rattle.std.proofs.Common.{◌∙◌}
use Rattle.residual_read.proofs.SigTable.{within_at}
use Rattle.residual_read.proofs.flags.within.Goals as goal

pub returns : goal.returns
returns c = c.from-3.ensures ∙ (rw (c.from.ensures, c.from-2.ensures) (within_at c.args.scan c.args.sub.right c.args.sub.below c.args.number c.requires.scan c.requires.number))
