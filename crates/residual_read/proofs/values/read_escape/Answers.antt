use Rattle.std.proofs.Common.{◌≡◌, sym, ◌∙◌, ◌+◌, ◌-◌, Some, ap, arith}
use Rattle.residual_read.proofs.Steps.{escape_more, escape_none, escape_low, escape_short, last_none, last_one, last_short, last_low, fl_below, sum_below, sum_is, power_by}
use Rattle.residual_read.specs.Parts.{escape_read}
use Rattle.residual_read.proofs.values.read_escape.Goals as goal

pub returns-in_err-bin-clause-value : goal.returns-in_err-bin-clause-value
returns-in_err-bin-clause-value c = rw c.from_residual.ensures (c.loop-ones.invariant.goes ∙ escape_none c.loop-ones.sum c.loop-ones.ones c.args.k c.loop-ones.decoder (omega arith) c.in_err-bin.ensures.value)

pub returns-in_err-low-clause-value : goal.returns-in_err-low-clause-value
returns-in_err-low-clause-value c = rw c.from_residual-in_err-low.ensures (c.loop-ones.invariant.goes ∙ escape_short c.loop-ones.sum c.loop-ones.ones c.args.k c.loop-ones.decoder c.bin.new.self (omega arith)
    (c.in_ok-bin.ensures.value ∙ ap (λ b. Some (b, c.bin.new.self)) c.if-not-branch.true) c.in_err-low.ensures.value)

pub overflow_add-result : goal.overflow_add-result
overflow_add-result c =
    let p = power_by c.args.k c.loop-ones.ones c.requires.few (omega arith) in
    let s = c.loop-ones.invariant.below in
    let l = fl_below (c.args.k + c.loop-ones.ones) c.in_ok-low.low c.bin.new.self c.bypass.new.self c.in_ok-low.ensures.value in
    omega arith

pub returns-then-not-branch-clause-value : goal.returns-then-not-branch-clause-value
returns-then-not-branch-clause-value c = c.loop-ones.invariant.goes ∙ escape_low c.loop-ones.sum c.loop-ones.ones c.args.k c.in_ok-low.low c.loop-ones.decoder c.bin.new.self c.bypass.new.self (omega arith)
    (c.in_ok-bin.ensures.value ∙ ap (λ b. Some (b, c.bin.new.self)) c.if-not-branch.true) c.in_ok-low.ensures.value

pub loop-ones-preserved : goal.loop-ones-preserved
loop-ones-preserved c = record {
  opened = c.in_ok-bin.ensures.«open»;
  below = sum_below c.loop-ones.sum c.args.k c.loop-ones.ones c.requires.few (omega arith) c.loop-ones.invariant.below;
  goes = c.loop-ones.invariant.goes ∙ escape_more c.loop-ones.sum c.loop-ones.ones c.args.k c.loop-ones.decoder c.bin.new.self (omega arith) (c.in_ok-bin.ensures.value ∙ ap (λ b. Some (b, c.bin.new.self)) c.if-not-branch.false)
      ∙ ap (λ s. escape_read s (15 - (c.loop-ones.ones + 1)) (c.args.k + (c.loop-ones.ones + 1)) c.bin.new.self) (sym (sum_is c.loop-ones.sum c.args.k c.loop-ones.ones c.requires.few (omega arith)));
}

pub returns-in_err-bin-2-clause-value : goal.returns-in_err-bin-2-clause-value
returns-in_err-bin-2-clause-value c = rw c.from_residual-in_err-bin-2.ensures (c.loop-ones.invariant.goes ∙ last_none c.loop-ones.sum c.loop-ones.ones c.args.k c.loop-ones.decoder (omega arith) c.in_err-bin-2.ensures.value)

pub returns-then-branch-clause-value : goal.returns-then-branch-clause-value
returns-then-branch-clause-value c = c.loop-ones.invariant.goes ∙ last_one c.loop-ones.sum c.loop-ones.ones c.args.k c.loop-ones.decoder c.bin-2.new.self (omega arith) (c.in_ok-bin-2.ensures.value ∙ ap (λ b. Some (b, c.bin-2.new.self)) c.if-branch.true)

pub returns-in_err-low-2-clause-value : goal.returns-in_err-low-2-clause-value
returns-in_err-low-2-clause-value c = rw c.from_residual-in_err-low-2.ensures (c.loop-ones.invariant.goes ∙ last_short c.loop-ones.sum c.loop-ones.ones c.args.k c.loop-ones.decoder c.bin-2.new.self (omega arith)
    (c.in_ok-bin-2.ensures.value ∙ ap (λ b. Some (b, c.bin-2.new.self)) c.if-branch.false) c.in_err-low-2.ensures.value)

pub overflow_add-result-2 : goal.overflow_add-result-2
overflow_add-result-2 c =
    let e : c.loop-ones.ones ≡ 15 = omega arith in
    let p = power_by c.args.k 15 c.requires.few (omega arith) in
    let s = (rw e at c.loop-ones.invariant.below) in
    let l = fl_below (c.args.k + 15) c.in_ok-low-2.low c.bin-2.new.self c.bypass-2.new.self c.in_ok-low-2.ensures.value in
    omega arith

pub returns-clause-value : goal.returns-clause-value
returns-clause-value c = c.loop-ones.invariant.goes ∙ last_low c.loop-ones.sum c.loop-ones.ones c.args.k c.in_ok-low-2.low c.loop-ones.decoder c.bin-2.new.self c.bypass-2.new.self (omega arith)
    (c.in_ok-bin-2.ensures.value ∙ ap (λ b. Some (b, c.bin-2.new.self)) c.if-branch.false) c.in_ok-low-2.ensures.value

pub returns-then-not-branch-clause-low : goal.returns-then-not-branch-clause-low
returns-then-not-branch-clause-low c =
    let p = power_by c.args.k c.loop-ones.ones c.requires.few (omega arith) in
    let s = c.loop-ones.invariant.below in
    let l = fl_below (c.args.k + c.loop-ones.ones) c.in_ok-low.low c.bin.new.self c.bypass.new.self c.in_ok-low.ensures.value in
    omega arith

pub returns-clause-low : goal.returns-clause-low
returns-clause-low c =
    let e : c.loop-ones.ones ≡ 15 = omega arith in
    let p = power_by c.args.k 15 c.requires.few (omega arith) in
    let s = (rw e at c.loop-ones.invariant.below) in
    let l = fl_below (c.args.k + 15) c.in_ok-low-2.low c.bin-2.new.self c.bypass-2.new.self c.in_ok-low-2.ensures.value in
    omega arith
