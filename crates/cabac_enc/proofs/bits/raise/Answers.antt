use Rattle.std.proofs.Common.{◌≡◌, length, arith}
use Rattle.cabac_enc.proofs.Lists.{Raises, raises_first, raises_at, raised_at, all_raised}
use Rattle.cabac_enc.proofs.bits.raise.Goals as goal

pub loop-place-init : goal.loop-place-init
loop-place-init c =
    let list = c.args.list.now.items in
    let e : c.len.result ≡ length list = omega arith in
    rw e (raises_first list c.args.count c.requires)

pub returns-then-raised : goal.returns-then-raised
returns-then-raised c = raised_at c.loop-place.place c.args.count c.args.list.now.items c.loop-place.list.items c.index.result.now c.loop-place-test.true c.loop-place.invariant c.index.ensures c.if-raised.true

pub loop-place-preserved : goal.loop-place-preserved
loop-place-preserved c = raises_at c.loop-place.place c.args.count c.args.list.now.items c.loop-place.list.items c.index.result.now c.loop-place-test.true c.loop-place.invariant c.index.ensures c.if-raised.false

pub returns : goal.returns
returns c =
    let e : c.loop-place.place ≡ 0 = omega arith in
    all_raised c.args.count c.args.list.now.items c.loop-place.list.items (let r : Raises 0 c.args.count c.args.list.now.items c.loop-place.list.items = rw e at c.loop-place.invariant in r)
