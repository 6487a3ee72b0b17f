use Rattle.std.proofs.Common.{◌≡◌, ◌*◌, ◌%◌, ◌^◌, ℕ, arith}
use Rattle.std.proofs.lemmas.Nat.{one_shl, pow_pos}
use Rattle.std.proofs.Math.Nat.{mod-lt}
use Rattle.residual_read.proofs.tests.set_at.Goals as goal

pub set-requires-clause-column : goal.set-requires-clause-column
set-requires-clause-column c =
    let l : ℕ = c.args.block.now.log2 in
    let e : c.log2-side.result ≡ l = c.log2-side.ensures.value in
    let high = c.log2-side.ensures.to in
    let p : 1 * 2 ^ c.log2-side.result % 2 ^ 32 ≡ 2 ^ c.log2-side.result = one_shl c.log2-side.result 32 (omega arith) in
    rw (p, e) (mod-lt c.args.column (pow_pos l))

pub set-requires-clause-row : goal.set-requires-clause-row
set-requires-clause-row c =
    let l : ℕ = c.args.block.now.log2 in
    let e : c.log2-side.result ≡ l = c.log2-side.ensures.value in
    let high = c.log2-side.ensures.to in
    let p : 1 * 2 ^ c.log2-side.result % 2 ^ 32 ≡ 2 ^ c.log2-side.result = one_shl c.log2-side.result 32 (omega arith) in
    rw (p, e) (mod-lt c.args.row (pow_pos l))
