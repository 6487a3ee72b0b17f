use Rattle.std.proofs.Common.{◌≡◌, ◌*◌, ◌-◌, arith}
use Rattle.h265_model.specs.Residual.{last_context}
use Rattle.bin_items.proofs.Growing.{took_one_more, took_as, took_all, open_as}
use Rattle.scan_orders.proofs.Bounds.{last_low}
use Rattle.residual_code.proofs.LastLaws.{prefix_more, prefix_ended}
use Rattle.residual_code.proofs.last.write_prefix.Goals as goal

pub bin-requires-clause-in_range : goal.bin-requires-clause-in_range
bin-requires-clause-in_range g c =
    rw c.last_context.ensures (last_low c.args.shape.component c.args.shape.log2 c.args.vertical c.loop-i.i c.requires.shape.high (let p = c.requires.prefix in omega arith))

pub loop-i-preserved : goal.loop-i-preserved
loop-i-preserved g c = record {
  opened = open_as _ _ c.in_ok-bin.ensures.phase tt;
  taken = took_one_more _ _ _ _ _ _ (took_as _ _ _ _ _ (prefix_more (last_context c.args.shape.component c.args.shape.log2 c.args.vertical) c.loop-i.i (2 * c.args.shape.log2 - 1) c.args.prefix c.last_context.result (omega arith) c.requires.prefix c.last_context.ensures) c.loop-i.invariant.taken) c.in_ok-bin.ensures.taken;
}

pub bin-requires-then-prefix-shape-clause-in_range : goal.bin-requires-then-prefix-shape-clause-in_range
bin-requires-then-prefix-shape-clause-in_range g c =
    rw c.last_context-then-prefix-shape.ensures (last_low c.args.shape.component c.args.shape.log2 c.args.vertical c.args.prefix c.requires.shape.high (let l = c.requires.shape.low in omega arith))

pub returns-in_ok-bin-2-clause-taken : goal.returns-in_ok-bin-2-clause-taken
returns-in_ok-bin-2-clause-taken g c =
    let e : c.loop-i.i ≡ c.args.prefix = omega arith in
    took_all _ _ _ (took_one_more _ _ _ _ _ _ (took_as _ _ _ _ _ (prefix_ended (last_context c.args.shape.component c.args.shape.log2 c.args.vertical) c.loop-i.i (2 * c.args.shape.log2 - 1) c.args.prefix c.last_context-then-prefix-shape.result e c.if-prefix-shape.true c.last_context-then-prefix-shape.ensures) c.loop-i.invariant.taken) c.in_ok-bin-2.ensures.taken)
