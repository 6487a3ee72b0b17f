use Rattle.std.proofs.Common.{◌∙◌, arith}
use Rattle.paint_script.proofs.Numbers.{more_than_most}
use Rattle.paint_script.proofs.number.value_up_to.Goals as goal

pub returns-in_err-checked_mul-clause-value : goal.returns-in_err-checked_mul-clause-value
returns-in_err-checked_mul-clause-value c =
    let digit = c.if-not-is_ascii_digit.ensures.cases in
    c.from_residual.ensures
    ∙ more_than_most c.args.most c.loop-digit.value c.args.text.now c.loop-digit.digit-index c.loop-digit-test.true digit.0 digit.1 c.loop-digit.invariant.value
    (omega (arith, c.ranges.most.fits, c.in_err-checked_mul.ensures))

pub returns-in_err-next-clause-value : goal.returns-in_err-next-clause-value
returns-in_err-next-clause-value c =
    let digit = c.if-not-is_ascii_digit.ensures.cases in
    c.from_residual-in_err-next.ensures
    ∙ more_than_most c.args.most c.loop-digit.value c.args.text.now c.loop-digit.digit-index c.loop-digit-test.true digit.0 digit.1 c.loop-digit.invariant.value
    (omega (arith, c.ranges.most.fits, c.in_err-next.ensures, c.in_ok-checked_mul.ensures, c.from.ensures))

pub returns-then-next-most-clause-value : goal.returns-then-next-most-clause-value
returns-then-next-most-clause-value c =
    let digit = c.if-not-is_ascii_digit.ensures.cases in
    more_than_most c.args.most c.loop-digit.value c.args.text.now c.loop-digit.digit-index c.loop-digit-test.true digit.0 digit.1 c.loop-digit.invariant.value
    (omega (arith, c.if-next-most.true, c.in_ok-next.ensures, c.in_ok-checked_mul.ensures, c.from.ensures))
