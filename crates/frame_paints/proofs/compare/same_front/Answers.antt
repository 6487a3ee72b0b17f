use Rattle.std.proofs.Common.{◌≡◌, ◌+◌, ◌-◌, ◌*◌, ◌<◌, ◌≤◌, ℕ, length, take, drop, subst, sym, get_or, arith}
use Rattle.std.proofs.Math.Logic.{⊎_elim}
use Rattle.std.proofs.lemmas.Bool.{cases_lt}
use Rattle.frame_paints.proofs.Parts.{chunk_same}
use Rattle.frame_paints.proofs.compare.same_front.Goals as goal

pub loop-chunk-preserved : goal.loop-chunk-preserved
loop-chunk-preserved c = λ k low inside.
    let a = c.args.a.now in
    let b = c.args.b.now in
    let at = c.loop-chunk.chunk * 64 in
    let fits : at + 64 ≤ length a = omega arith in
    let n : at + 64 - at ≡ 64 = omega arith in
    ⊎_elim (λ (h : k < 64 * c.loop-chunk.chunk). c.loop-chunk.invariant k h inside)
    (λ (h : 64 * c.loop-chunk.chunk ≤ k).
    chunk_same a b at (at + 64 - at) (omega arith) (c.is_same.ensures.0 c.if-not-is_same.false) k (omega arith) (omega arith)) (cases_lt k (64 * c.loop-chunk.chunk))
