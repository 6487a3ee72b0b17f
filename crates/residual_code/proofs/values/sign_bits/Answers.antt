use Rattle.std.proofs.Common.{◌≡◌, ◌∙◌, ap, refl, map, get_or, SFits, w16, rules, arith}
use Rattle.std.specs.Prelude.{pos}
use Rattle.std.proofs.lemmas.List.{take_all}
use Rattle.std.proofs.lemmas.Int.{to_z-of_z}
use Rattle.h265_model.specs.Bits.{value_after, digit}
use Rattle.h265_model.specs.Residual.{is_negative}
use Rattle.residual_code.proofs.Signs.{sign_more, signs_done, sign_test, sign_low}
use Rattle.residual_code.proofs.values.sign_bits.Goals as goal

pub loop-value-init : goal.loop-value-init
unfolding value_after
loop-value-init c = record { bits = refl; low = omega arith }

pub loop-value-preserved : goal.loop-value-preserved
loop-value-preserved c =
    let values = c.args.values.now in
    let i = c.loop-value.value-index in
    let v = get_or values i (pos 0) in
    let fits : SFits w16 v = search rules in
    let e : c.from.result ≡ digit (is_negative v) = rw (← sign_test v, ← to_z-of_z w16 v fits) c.from.ensures in
    rw e (record {
      bits = sign_more values i c.loop-value.bits (omega arith) c.loop-value.invariant.bits;
      low = sign_low values i c.loop-value.bits (is_negative v) c.loop-value.invariant.low;
    })

pub returns : goal.returns
returns c =
    let values = c.args.values.now in
    signs_done values c.loop-value.bits (c.loop-value.invariant.bits ∙ ap (λ l. value_after 0 (map is_negative l)) (take_all c.loop-value.value-index values (omega arith)))
