use Rattle.std.proofs.Common.{◌≡◌, ◌^◌, ap, ◌-◌, ◌*◌, ◌%◌, arith}
use Rattle.std.proofs.lemmas.Nat.{one_shl}
use Rattle.bin_items.proofs.Growing.{took_more, took_as, stopped, writes_at_err}
use Rattle.bin_items.proofs.Bits.{ones_first}
use Rattle.bin_items.proofs.binarise.write_ones.Goals as goal

pub returns-in_err-bypass-clause-taken : goal.returns-in_err-bypass-clause-taken
returns-in_err-bypass-clause-taken g c =
    let some = c.min-some.result in
    let left = c.loop-left.left in
    let p : 1 * 2 ^ some % 2 ^ 32 ≡ 2 ^ some = one_shl some 32 (omega arith) in
    writes_at_err _ _ _ _ _ c.from_residual.ensures.1
    (stopped _ _ _ _ _ _ (took_as _ _ _ _ _ (ones_first some left (1 * 2 ^ some % 2 ^ 32 - 1) (omega arith) (ap (λ m. m - 1) p)) c.loop-left.invariant.taken) c.in_err-bypass.ensures.taken)

pub loop-left-preserved : goal.loop-left-preserved
loop-left-preserved g c =
    let some = c.min-some.result in
    let left = c.loop-left.left in
    let p : 1 * 2 ^ some % 2 ^ 32 ≡ 2 ^ some = one_shl some 32 (omega arith) in
    record {
      opened = c.in_ok-bypass.ensures.not_ended;
      taken = took_more _ _ _ _ _ _ (took_as _ _ _ _ _ (ones_first some left (1 * 2 ^ some % 2 ^ 32 - 1) (omega arith) (ap (λ m. m - 1) p)) c.loop-left.invariant.taken) c.in_ok-bypass.ensures.taken;
    }
