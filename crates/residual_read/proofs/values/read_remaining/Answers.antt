use Rattle.residual_read.proofs.CodeReads.{twenty_low}
use Rattle.residual_read.proofs.values.read_remaining.Goals as goal

pub ones_before-ones-requires : goal.ones_before-ones-requires
ones_before-ones-requires c = twenty_low c.in-Some.digits c.in-Some.ensures.value.0 c.args.decoder.now c.in-Some.ensures.value.1
