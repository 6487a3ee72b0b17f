use Rattle.scan_orders.proofs.Bounds.{greater2_low}
use Rattle.residual_read.proofs.LevelSteps.{second_none, second_is}
use Rattle.residual_read.proofs.values.read_second.Goals as goal

pub bin-requires-clause-in_range : goal.bin-requires-clause-in_range
bin-requires-clause-in_range c = rw c.greater2_context.ensures (greater2_low c.args.component c.args.set c.requires.set)

pub returns-then-ones-eq0-clause-value : goal.returns-then-ones-eq0-clause-value
returns-then-ones-eq0-clause-value c = second_none c.args.component c.args.set c.args.ones c.args.decoder.now c.if-ones-eq0.true

pub returns-clause-value : goal.returns-clause-value
returns-clause-value c = rw (second_is c.args.component c.args.set c.args.ones c.greater2_context.result c.args.decoder.now c.if-ones-eq0.false c.greater2_context.ensures) c.bin.ensures.value
