use Rattle.std.proofs.Common.{arith}
use Rattle.residual_read.proofs.Steps.{remaining_none, short_none, long_none, short_some, long_some, fl_below, shifted_is, shifted_low}
use Rattle.residual_read.proofs.values.read_bins.Goals as goal

pub returns-in_err-ones-clause-value : goal.returns-in_err-ones-clause-value
returns-in_err-ones-clause-value c = rw c.from_residual.ensures (remaining_none c.args.rice c.args.decoder.now c.in_err-ones.ensures.value)

pub returns-in_err-low-clause-value : goal.returns-in_err-low-clause-value
returns-in_err-low-clause-value c = rw c.from_residual-in_err-low.ensures (short_none c.args.rice c.in_ok-ones.ones c.args.decoder.now c.read_prefix.new.decoder c.in_ok-ones.ensures.value c.if-ones-lt4.true c.in_err-low.ensures.value)

pub returns-in_err-rest-clause-value : goal.returns-in_err-rest-clause-value
returns-in_err-rest-clause-value c = rw c.from_residual-in_err-rest.ensures (long_none c.args.rice c.in_ok-ones.ones c.args.decoder.now c.read_prefix.new.decoder c.in_ok-ones.ensures.value c.if-ones-lt4.false c.in_err-rest.ensures.value)

pub overflow_add-result : goal.overflow_add-result
overflow_add-result c =
    let s = shifted_low c.in_ok-ones.ones c.args.rice c.requires.rice c.in_ok-ones.ensures.most in
    let l = fl_below c.args.rice c.in_ok-low.low c.read_prefix.new.decoder c.bypass.new.self c.in_ok-low.ensures.value in
    let p = shifted_low 1 c.args.rice c.requires.rice (omega arith) in
    omega arith

pub returns-then-ones-lt4-clause-low : goal.returns-then-ones-lt4-clause-low
returns-then-ones-lt4-clause-low c =
    let s = shifted_low c.in_ok-ones.ones c.args.rice c.requires.rice c.in_ok-ones.ensures.most in
    let l = fl_below c.args.rice c.in_ok-low.low c.read_prefix.new.decoder c.bypass.new.self c.in_ok-low.ensures.value in
    let p = shifted_low 1 c.args.rice c.requires.rice (omega arith) in
    omega arith

pub returns-then-ones-lt4-clause-value : goal.returns-then-ones-lt4-clause-value
returns-then-ones-lt4-clause-value c =
    rw (shifted_is c.in_ok-ones.ones c.args.rice c.requires.rice c.in_ok-ones.ensures.most)
    (short_some c.args.rice c.in_ok-ones.ones c.in_ok-low.low c.args.decoder.now c.read_prefix.new.decoder c.bypass.new.self c.in_ok-ones.ensures.value c.if-ones-lt4.true c.in_ok-low.ensures.value)

pub returns-clause-value : goal.returns-clause-value
returns-clause-value c =
    rw (shifted_is 4 c.args.rice c.requires.rice (omega arith))
    (long_some c.args.rice c.in_ok-ones.ones c.in_ok-rest.rest c.args.decoder.now c.read_prefix.new.decoder c.read_escape.new.decoder c.in_ok-ones.ensures.value c.if-ones-lt4.false c.in_ok-rest.ensures.value)
