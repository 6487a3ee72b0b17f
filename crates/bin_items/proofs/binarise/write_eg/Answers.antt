use Rattle.std.proofs.Common.{◌≡◌, ◌≤◌, ◌<◌, ◌^◌, ap, sym, ◌∙◌, ◌+◌, ◌-◌, ◌*◌, ◌%◌, arith}
use Rattle.std.proofs.lemmas.Nat.{one_shl}
use Rattle.h265_model.specs.Binarise.{bypass_bins, tr, eg}
use Rattle.bin_items.proofs.Growing.{writes_then, writes_as}
use Rattle.bin_items.proofs.Bits.{eg_next, eg_room, eg_less, eg_done}
use Rattle.bin_items.proofs.binarise.write_eg.Goals as goal

pub loop-ones-preserved : goal.loop-ones-preserved
loop-ones-preserved g c =
    let k = c.args.parameter in
    let ones = c.loop-ones.ones in
    let rest = c.loop-ones.rest in
    let p : 1 * 2 ^ (k + ones) % 2 ^ 32 ≡ 2 ^ (k + ones) = one_shl (k + ones) 32 (omega arith) in
    let more : 2 ^ (k + ones) ≤ rest = omega arith in
    let room : ones < 15 = eg_room ones k c.args.value rest c.loop-ones.invariant.few c.requires.below c.loop-ones.invariant.less more in
    record {
      few = omega arith;
      less = eg_less ones k c.args.value rest (1 * 2 ^ (k + ones) % 2 ^ 32) p c.loop-ones.invariant.less more;
      code = let e = eg_next (15 - ones) ones (k + ones) rest (eg k c.args.value) (omega arith) more c.loop-ones.invariant.code in
          let i : 15 - ones - 1 ≡ 15 - (ones + 1) = omega arith in
          let j : k + ones + 1 ≡ k + (ones + 1) = omega arith in
          rw (← i, ← j, p) e;
    }

pub returns-clause-taken : goal.returns-clause-taken
returns-clause-taken g c =
    let k = c.args.parameter in
    let ones = c.loop-ones.ones in
    let rest = c.loop-ones.rest in
    let p : 1 * 2 ^ (k + ones) % 2 ^ 32 ≡ 2 ^ (k + ones) = one_shl (k + ones) 32 (omega arith) in
    let less : rest < 2 ^ (k + ones) = omega arith in
    writes_as _ _ _ _ _ (sym (ap bypass_bins c.loop-ones.invariant.code ∙ eg_done (15 - ones) (k + ones) rest (tr ones ones) less))
    (writes_then _ _ _ _ _ _ c.in_ok-write_ones.ensures.taken c.bypass.ensures.taken)
