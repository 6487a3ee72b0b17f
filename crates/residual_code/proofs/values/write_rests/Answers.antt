use Rattle.std.proofs.Common.{◌≡◌, ◌∙◌, ◌-◌, sym, ap, refl, get_or, SFits, w16, rules, arith}
use Rattle.std.specs.Prelude.{pos, nat_abs}
use Rattle.std.proofs.lemmas.Int.{to_z-of_z}
use Rattle.bin_items.proofs.Growing.{took_more, took_as, took_all, stopped, grew_as, front_as, writes_at_err}
use Rattle.residual_code.specs.Parts.{rests_from}
use Rattle.residual_code.proofs.Sizes.{rests_more, rests_are, size_high, sizes_done}
use Rattle.residual_code.proofs.values.write_rests.Goals as goal

pub write_rest-requires-clause-size : goal.write_rest-requires-clause-size
write_rest-requires-clause-size g c =
    let v = get_or c.args.values.now c.loop-i.i (pos 0) in
    let fits : SFits w16 v = search rules in
    rw (c.from-size.ensures, c.unsigned_abs.ensures.value, to_z-of_z w16 v fits) (size_high c.args.values.now c.loop-i.i c.requires.bounds)

pub returns-in_err-write_rest-clause-taken : goal.returns-in_err-write_rest-clause-taken
returns-in_err-write_rest-clause-taken g c =
    let v = get_or c.args.values.now c.loop-i.i (pos 0) in
    let fits : SFits w16 v = search rules in
    let e : c.from-size.result ≡ nat_abs v = c.from-size.ensures ∙ (c.unsigned_abs.ensures.value ∙ ap nat_abs (to_z-of_z w16 v fits)) in
    writes_at_err _ _ _ _ _ c.from_residual.ensures.1 (front_as _ _ _ _ (sym (rests_are c.args.values.now c.requires.nonzero))
    (stopped _ _ _ _ _ _ (took_as _ _ _ _ _ (rests_more c.args.values.now c.loop-i.rice c.least-base.result _ c.loop-i.seen c.loop-i.i c.from-size.result (omega arith) e c.least-base.ensures refl) c.loop-i.invariant.taken) c.in_err-write_rest.ensures.taken))

pub loop-i-preserved : goal.loop-i-preserved
loop-i-preserved g c =
    let v = get_or c.args.values.now c.loop-i.i (pos 0) in
    let fits : SFits w16 v = search rules in
    let e : c.from-size.result ≡ nat_abs v = c.from-size.ensures ∙ (c.unsigned_abs.ensures.value ∙ ap nat_abs (to_z-of_z w16 v fits)) in
    record {
      opened = c.in_ok-write_rest.ensures.not_ended;
      low = c.rice_after-rice.ensures.high;
      taken = took_more _ _ _ _ _ _ (took_as _ _ _ _ _ (rests_more c.args.values.now c.loop-i.rice c.least-base.result c.rice_after-rice.result c.loop-i.seen c.loop-i.i c.from-size.result (omega arith) e c.least-base.ensures c.rice_after-rice.ensures.value) c.loop-i.invariant.taken) c.in_ok-write_rest.ensures.taken;
    }

pub returns-clause-taken : goal.returns-clause-taken
returns-clause-taken g c =
    grew_as _ _ _ _ (sym (rests_are c.args.values.now c.requires.nonzero))
    (took_all _ _ _ (took_as _ _ _ _ _ (ap (rests_from c.loop-i.rice c.loop-i.seen (8 - c.loop-i.i)) (sizes_done c.args.values.now c.loop-i.i (omega arith))) c.loop-i.invariant.taken))
