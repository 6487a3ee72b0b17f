use Rattle.std.proofs.Common.{◌∙◌, ◌*◌, ◌+◌, ap, arith}
use Rattle.scan_orders.proofs.Bounds.{greater1_low}
use Rattle.residual_read.proofs.Steps.{ones_more, ones_none, ones_full, next_below}
use Rattle.residual_read.proofs.values.read_ones.Goals as goal

pub bin-requires-clause-in_range : goal.bin-requires-clause-in_range
bin-requires-clause-in_range c = rw c.greater1_context.ensures (greater1_low c.args.component c.args.set c.loop-i.counter c.requires.set)

pub returns-in_err-flag-clause-value : goal.returns-in_err-flag-clause-value
returns-in_err-flag-clause-value c = rw c.from_residual.ensures
    (c.loop-i.invariant.goes ∙ ones_none c.args.component c.args.set c.loop-i.counter c.loop-i.ones c.loop-i.i c.args.many c.greater1_context.result c.loop-i.decoder (omega arith) c.greater1_context.ensures c.in_err-flag.ensures.value)

pub loop-i-preserved : goal.loop-i-preserved
loop-i-preserved c = record {
  opened = c.in_ok-flag.ensures.«open»;
  high = let a = c.counted-counter.ensures.high in let b = c.loop-i.invariant.high in omega arith;
  below = next_below c.in_ok-flag.flag c.from.result c.loop-i.ones c.loop-i.i c.from.ensures c.loop-i.invariant.below;
  goes = c.loop-i.invariant.goes ∙ ones_more c.args.component c.args.set c.loop-i.counter c.loop-i.ones c.loop-i.i c.args.many c.counted-counter.result (2 * c.loop-i.ones + c.from.result) c.greater1_context.result c.in_ok-flag.flag c.loop-i.decoder c.bin.new.self (omega arith)
      c.greater1_context.ensures c.counted-counter.ensures.value (ap (λ d. 2 * c.loop-i.ones + d) c.from.ensures) c.in_ok-flag.ensures.value;
}

pub returns-clause-value : goal.returns-clause-value
returns-clause-value c = c.loop-i.invariant.goes ∙ ones_full c.args.component c.args.set c.loop-i.counter c.loop-i.ones c.loop-i.i c.args.many c.loop-i.decoder (omega arith)
