use Rattle.std.proofs.Common.{◌≡◌, ◌-◌, ◌*◌, ◌/◌, ◌^◌, refl, arith}
use Rattle.cabac_bytes.proofs.Shown.{low_digits}
use Rattle.cabac_bytes.proofs.Closing.{lead_fits, one_passed, closed}
use Rattle.cabac_bytes.proofs.pending.PendingBytes.pass_all.Goals as goal

pub pass_on-requires : goal.pass_on-requires
pass_on-requires c = lead_fits c.loop-left.self.held c.loop-left.rest c.loop-left.left c.loop-left-test.true c.loop-left.invariant.fits

pub loop-left-preserved : goal.loop-left-preserved
loop-left-preserved c =
    let left = c.loop-left.left in
    let rest = c.loop-left.rest in
    let most = c.loop-left.invariant.few in
    let p = one_passed left rest c.args.number c.args.count (rest / 2 ^ (8 * (left - 1))) c.args.self.now c.loop-left.self c.pass_on.new.self c.loop-left-test.true c.loop-left.invariant refl c.in_ok-pass_on.ensures.ok in
    rw (low_digits rest (8 * (left - 1)) (omega arith)) p

pub returns-clause-ok : goal.returns-clause-ok
returns-clause-ok c =
    let none : c.loop-left.left ≡ 0 = omega arith in
    closed c.settle.result c.loop-left.rest c.args.number c.args.count c.args.self.now c.loop-left.self c.settle.new.self c.requires.some (rw none at c.loop-left.invariant) c.settle.ensures.ok
