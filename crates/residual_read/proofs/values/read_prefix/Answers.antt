use Rattle.std.proofs.Common.{◌∙◌, Some, ap, arith}
use Rattle.residual_read.proofs.Steps.{four_more, four_end, four_none, four_full}
use Rattle.residual_read.proofs.values.read_prefix.Goals as goal

pub loop-ones-preserved : goal.loop-ones-preserved
loop-ones-preserved c = record {
  opened = c.in_ok-bin.ensures.«open»;
  most = omega arith;
  goes = c.loop-ones.invariant.goes ∙ four_more c.loop-ones.ones c.loop-ones.decoder c.bin.new.self (omega arith) (c.in_ok-bin.ensures.value ∙ ap (λ b. Some (b, c.bin.new.self)) c.if-not-branch.false);
}

pub returns-in_err-bin-clause-value : goal.returns-in_err-bin-clause-value
returns-in_err-bin-clause-value c = rw c.from_residual.ensures (c.loop-ones.invariant.goes ∙ four_none c.loop-ones.ones c.loop-ones.decoder (omega arith) c.in_err-bin.ensures.value)

pub returns-then-not-branch-clause-value : goal.returns-then-not-branch-clause-value
returns-then-not-branch-clause-value c = c.loop-ones.invariant.goes ∙ four_end c.loop-ones.ones c.loop-ones.decoder c.bin.new.self (omega arith) (c.in_ok-bin.ensures.value ∙ ap (λ b. Some (b, c.bin.new.self)) c.if-not-branch.true)

pub returns-clause-value : goal.returns-clause-value
returns-clause-value c = c.loop-ones.invariant.goes ∙ four_full c.loop-ones.ones c.loop-ones.decoder (omega arith)
