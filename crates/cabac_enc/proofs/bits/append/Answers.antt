use Rattle.std.proofs.Common.{◌++◌, ◌≤◌, ◌^◌, length, length-append, arith}
use Rattle.h265_model.specs.Bits.{u}
use Rattle.h265_model.proofs.BitLaws.{length-u}
use Rattle.cabac_enc.proofs.Lists.{added_small, added_carried, below_power}
use Rattle.cabac_enc.proofs.bits.append.Goals as goal

pub raise-requires : goal.raise-requires
raise-requires c =
    let old = c.args.list.now.items in
    let e : c.args.count ≤ length (old ++ u c.args.count c.args.number) = omega (arith, length-append old (u c.args.count c.args.number), length-u c.args.count c.args.number) in
    rw c.in_ok-push_digits.ensures.ok e

pub returns-then-number-count-eq1-clause-ok : goal.returns-then-number-count-eq1-clause-ok
returns-then-number-count-eq1-clause-ok c =
    added_carried c.args.list.now.items c.args.count c.args.number c.raise.new.list.items c.if-number-count-eq1.true (rw c.in_ok-push_digits.ensures.ok at c.raise.ensures)

pub returns-else-number-count-eq1-clause-ok : goal.returns-else-number-count-eq1-clause-ok
returns-else-number-count-eq1-clause-ok c =
    rw c.in_ok-push_digits.ensures.ok (added_small c.args.list.now.items c.args.count c.args.number (below_power c.args.number (2 ^ c.args.count) c.requires.fits c.if-number-count-eq1.false))
