use Rattle.std.proofs.Common.{◌∙◌, ◌*◌, ◌-◌, Some, ap, arith}
use Rattle.scan_orders.proofs.Bounds.{last_low}
use Rattle.residual_read.specs.Parts.{shape_of}
use Rattle.residual_read.proofs.Steps.{prefix_more, prefix_end, prefix_none, prefix_full}
use Rattle.residual_read.proofs.last.read_prefix.Goals as goal

pub bin-requires-clause-in_range : goal.bin-requires-clause-in_range
bin-requires-clause-in_range c = rw c.last_context-context.ensures (last_low c.args.shape.component c.args.shape.log2 c.args.vertical c.loop-ones.ones c.requires.shape.high (omega arith))

pub loop-ones-preserved : goal.loop-ones-preserved
loop-ones-preserved c = record {
  opened = c.in_ok-bin.ensures.«open»;
  most = omega arith;
  goes = c.loop-ones.invariant.goes ∙ prefix_more (shape_of c.args.shape) c.args.vertical c.loop-ones.ones (2 * c.args.shape.log2 - 1) c.last_context-context.result c.loop-ones.decoder c.bin.new.self (omega arith) c.last_context-context.ensures
      (c.in_ok-bin.ensures.value ∙ ap (λ b. Some (b, c.bin.new.self)) c.if-not-branch.false);
}

pub returns-in_err-bin-clause-value : goal.returns-in_err-bin-clause-value
returns-in_err-bin-clause-value c = rw c.from_residual.ensures
    (c.loop-ones.invariant.goes ∙ prefix_none (shape_of c.args.shape) c.args.vertical c.loop-ones.ones (2 * c.args.shape.log2 - 1) c.last_context-context.result c.loop-ones.decoder (omega arith) c.last_context-context.ensures c.in_err-bin.ensures.value)

pub returns-then-not-branch-clause-value : goal.returns-then-not-branch-clause-value
returns-then-not-branch-clause-value c =
    c.loop-ones.invariant.goes ∙ prefix_end (shape_of c.args.shape) c.args.vertical c.loop-ones.ones (2 * c.args.shape.log2 - 1) c.last_context-context.result c.loop-ones.decoder c.bin.new.self (omega arith) c.last_context-context.ensures
    (c.in_ok-bin.ensures.value ∙ ap (λ b. Some (b, c.bin.new.self)) c.if-not-branch.true)

pub returns-clause-value : goal.returns-clause-value
returns-clause-value c = c.loop-ones.invariant.goes ∙ prefix_full (shape_of c.args.shape) c.args.vertical c.loop-ones.ones (2 * c.args.shape.log2 - 1) c.loop-ones.decoder (omega arith)
