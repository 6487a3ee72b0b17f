use Rattle.std.proofs.Common.{min}
use Rattle.residual_read.proofs.LevelSteps.{values_none1, values_none2, values_none3, values_none4, values_all}
use Rattle.residual_read.proofs.values.read_values.Goals as goal

pub returns-in_err-ones-clause-value : goal.returns-in_err-ones-clause-value
returns-in_err-ones-clause-value c = rw c.from_residual.ensures (values_none1 c.args.component c.args.set c.args.many c.args.decoder.now (rw (← c.min.ensures) c.in_err-ones.ensures.value))

pub returns-in_err-greater2-clause-value : goal.returns-in_err-greater2-clause-value
returns-in_err-greater2-clause-value c = rw c.from_residual-in_err-greater2.ensures (values_none2 c.args.component c.args.set c.args.many c.in_ok-ones.ones c.args.decoder.now c.read_ones.new.decoder (rw (← c.min.ensures) c.in_ok-ones.ensures.value) c.in_err-greater2.ensures.value)

pub returns-in_err-signs-clause-value : goal.returns-in_err-signs-clause-value
returns-in_err-signs-clause-value c = rw c.from_residual-in_err-signs.ensures (values_none3 c.args.component c.args.set c.args.many c.in_ok-ones.ones c.in_ok-greater2.greater2 c.args.decoder.now c.read_ones.new.decoder c.read_second.new.decoder
    (rw (← c.min.ensures) c.in_ok-ones.ensures.value) c.in_ok-greater2.ensures.value c.in_err-signs.ensures.value)

pub returns-in_err-read_levels-clause-value : goal.returns-in_err-read_levels-clause-value
returns-in_err-read_levels-clause-value c = rw c.from_residual-in_err-read_levels.ensures (values_none4 c.args.component c.args.set c.args.many c.in_ok-ones.ones c.in_ok-signs.signs c.in_ok-greater2.greater2 c.args.decoder.now c.read_ones.new.decoder c.read_second.new.decoder c.bypass.new.self
    (rw (← c.min.ensures) c.in_ok-ones.ensures.value) c.in_ok-greater2.ensures.value c.in_ok-signs.ensures.value (rw c.requires.none at c.in_err-read_levels.ensures.value))

pub returns-clause-value : goal.returns-clause-value
returns-clause-value c = values_all c.args.component c.args.set c.args.many c.in_ok-ones.ones c.in_ok-signs.signs c.in_ok-greater2.greater2 c.read_levels.new.values.items c.args.decoder.now c.read_ones.new.decoder c.read_second.new.decoder c.bypass.new.self c.read_levels.new.decoder
    (rw (← c.min.ensures) c.in_ok-ones.ensures.value) c.in_ok-greater2.ensures.value c.in_ok-signs.ensures.value (rw c.requires.none at c.in_ok-read_levels.ensures.value)
