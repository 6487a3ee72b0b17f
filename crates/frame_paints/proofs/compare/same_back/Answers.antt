use Rattle.std.proofs.Common.{◌≡◌, ◌+◌, ◌-◌, ◌*◌, ◌<◌, ◌≤◌, ℕ, length, arith}
use Rattle.std.proofs.Math.Logic.{⊎_elim}
use Rattle.std.proofs.lemmas.Bool.{cases_lt}
use Rattle.frame_paints.proofs.Parts.{chunk_same}
use Rattle.frame_paints.proofs.compare.same_back.Goals as goal

pub loop-chunk-preserved : goal.loop-chunk-preserved
loop-chunk-preserved c = λ k low inside.
    let a = c.args.a.now in
    let b = c.args.b.now in
    let end = length a - c.loop-chunk.chunk * 64 in
    let at = end - 64 in
    let fits : 64 ≤ end = omega arith in
    ⊎_elim
    (λ (h : k < end). chunk_same a b at (end - at) (omega arith) (c.is_same.ensures.0 c.if-not-is_same.false) k (omega arith) (omega arith))
    (λ (h : end ≤ k). c.loop-chunk.invariant k (omega arith) inside) (cases_lt k end)
