use Rattle.std.proofs.Common.{◌≡◌, ◌∙◌, ap, get_or, SFits, w16, rules, arith}
use Rattle.std.specs.Prelude.{pos, nat_abs}
use Rattle.std.proofs.lemmas.Int.{to_z-of_z}
use Rattle.bin_items.proofs.Growing.{took_one_more, took_as, took_all, open_as}
use Rattle.h265_model.specs.Residual.{greater1_items}
use Rattle.scan_orders.proofs.Bounds.{greater1_low}
use Rattle.residual_code.proofs.Sizes.{greater1_more, flags_done}
use Rattle.residual_code.proofs.values.write_greater1.Goals as goal

pub bin-requires-clause-in_range : goal.bin-requires-clause-in_range
bin-requires-clause-in_range g c = rw c.greater1_context.ensures (greater1_low c.args.component c.args.set c.loop-i.counter c.requires.set)

pub loop-i-preserved : goal.loop-i-preserved
loop-i-preserved g c =
    let v = get_or c.args.values.now c.loop-i.i (pos 0) in
    let fits : SFits w16 v = search rules in
    let e : c.unsigned_abs-flag.result ≡ nat_abs v = c.unsigned_abs-flag.ensures.value ∙ ap nat_abs (to_z-of_z w16 v fits) in
    let high = c.counted-counter.ensures.high in
    let before = c.loop-i.invariant.high in
    record {
      opened = open_as _ _ c.in_ok-bin.ensures.phase tt;
      high = omega arith;
      taken = took_one_more _ _ _ _ _ _ (took_as _ _ _ _ _ (greater1_more c.args.component c.args.set c.loop-i.counter c.counted-counter.result c.greater1_context.result c.args.values.now c.loop-i.i c.unsigned_abs-flag.result (omega arith) e c.greater1_context.ensures c.counted-counter.ensures.value) c.loop-i.invariant.taken) c.in_ok-bin.ensures.taken;
    }

pub returns-clause-taken : goal.returns-clause-taken
returns-clause-taken g c = took_all _ _ _ (took_as _ _ _ _ _ (ap (greater1_items c.args.component c.args.set c.loop-i.counter) (flags_done c.args.values.now c.loop-i.i (omega arith))) c.loop-i.invariant.taken)
