use Rattle.std.proofs.Common.{◌≡◌, ◌<◌, ◌+◌, ◌*◌, ◌^◌, ℕ, false, get_or, drop, arith}
use Rattle.std.proofs.Math.ListN.{drop_of_length-le}
use Rattle.h265_model.specs.Bits.{digit}
use Rattle.cabac_enc.proofs.Lists.{nothing_taken, still_few, digit_taken, digit_fits, byte_taken, bits_left}
use Rattle.cabac_enc.proofs.bits.to_bytes.Goals.{then-count-eq8+in_ok-push, else-count-eq8}
use Rattle.cabac_enc.proofs.bits.to_bytes.Goals as goal

pub loop-bit-init : goal.loop-bit-init
loop-bit-init c = record { few = omega arith; below = omega arith; same = nothing_taken c.new-found.result.items c.args.list.now c.new-found.ensures.items }

pub loop-bit-preserved : goal.loop-bit-preserved
loop-bit-preserved c =
    let l = c.loop-bit in
    let all = c.args.list.now in
    let bit = get_or all l.bit-index false in
    let number : ℕ = 2 * l.number + digit bit in
    let taken = digit_taken l.found.items l.count l.number l.bit-index false all c.loop-bit-test.true l.invariant.same in
    let fits : number < 2 ^ (l.count + 1) = digit_fits l.count l.number bit l.invariant.below in
    elim c.if-count-eq8.branch [
      | then-count-eq8+in_ok-push w ↦ (let e : l.count + 1 ≡ 8 = w.if-count-eq8.true in rw (w.count-is, w.number-is, w.found-is) (record {
        few = omega arith;
        below = omega arith;
        same = rw w.in_ok-push.ensures.items (byte_taken l.found.items number all (drop (l.bit-index + 1) all) (rw e at fits) (rw e at taken));
      }))
      | else-count-eq8 w ↦ (rw (w.count-is, w.number-is, w.found-is) (record { few = still_few l.count l.invariant.few w.if-count-eq8.false; below = fits; same = taken }))
    ]

pub returns : goal.returns
returns c =
    let i = c.loop-bit.invariant in
    bits_left c.loop-bit.found.items c.loop-bit.count c.loop-bit.number c.args.list.now (drop c.loop-bit.bit-index c.args.list.now) i.few (drop_of_length-le c.args.list.now c.loop-bit-test.false) i.same
