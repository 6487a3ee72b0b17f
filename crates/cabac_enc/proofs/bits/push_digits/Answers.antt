use Rattle.std.proofs.Common.{rules, ◌≡◌, arith}
use Rattle.cabac_enc.proofs.Lists.{Pushed, pushed_at, all_pushed}
use Rattle.cabac_enc.proofs.bits.push_digits.Goals as goal

pub loop-left-preserved : goal.loop-left-preserved
loop-left-preserved c = pushed_at c.loop-left.left c.args.count c.args.number c.args.list.now.items c.loop-left.list.items c.push.new.self.items (omega arith) c.loop-left.invariant (search rules)

pub returns-clause-ok : goal.returns-clause-ok
returns-clause-ok c =
    let e : c.loop-left.left ≡ 0 = omega arith in
    all_pushed c.args.count c.args.number c.args.list.now.items c.loop-left.list.items (let p : Pushed 0 c.args.count c.args.number c.args.list.now.items c.loop-left.list.items = rw e at c.loop-left.invariant in p)
