use Rattle.std.proofs.Common.{◌≡◌, ◌∙◌, sym, ap, get_or, SFits, w16, rules, arith}
use Rattle.std.specs.Prelude.{pos, nat_abs}
use Rattle.std.proofs.lemmas.Int.{to_z-of_z}
use Rattle.h265_model.specs.Residual.{has_flag}
use Rattle.residual_code.proofs.Sizes.{large_found, large_size, flag_passed, size_passed, flags_done}
use Rattle.residual_code.proofs.values.first_large.Goals as goal

pub returns-then-size-gt1-clause-flag : goal.returns-then-size-gt1-clause-flag
returns-then-size-gt1-clause-flag c =
    let v = get_or c.args.values.now c.loop-i.i (pos 0) in
    let fits : SFits w16 v = search rules in
    large_found c.args.values.now c.loop-i.i c.unsigned_abs-size.result (omega arith) (c.unsigned_abs-size.ensures.value ∙ ap nat_abs (to_z-of_z w16 v fits)) c.if-size-gt1.true c.loop-i.invariant.flag

pub returns-then-size-gt1-clause-size : goal.returns-then-size-gt1-clause-size
returns-then-size-gt1-clause-size c =
    let v = get_or c.args.values.now c.loop-i.i (pos 0) in
    let fits : SFits w16 v = search rules in
    large_size c.args.values.now c.loop-i.i c.unsigned_abs-size.result (omega arith) (c.unsigned_abs-size.ensures.value ∙ ap nat_abs (to_z-of_z w16 v fits)) c.if-size-gt1.true c.loop-i.invariant.size

pub loop-i-preserved : goal.loop-i-preserved
loop-i-preserved c =
    let v = get_or c.args.values.now c.loop-i.i (pos 0) in
    let fits : SFits w16 v = search rules in
    let e : c.unsigned_abs-size.result ≡ nat_abs v = c.unsigned_abs-size.ensures.value ∙ ap nat_abs (to_z-of_z w16 v fits) in
    record {
      flag = flag_passed c.args.values.now c.loop-i.i c.unsigned_abs-size.result (omega arith) e c.if-size-gt1.false c.loop-i.invariant.flag;
      size = size_passed c.args.values.now c.loop-i.i c.unsigned_abs-size.result (omega arith) e c.if-size-gt1.false c.loop-i.invariant.size;
    }

pub returns-clause-flag : goal.returns-clause-flag
returns-clause-flag c = sym (c.loop-i.invariant.flag ∙ ap has_flag (flags_done c.args.values.now c.loop-i.i (omega arith)))
