use Rattle.std.proofs.Common.{◌≡◌, ℕ, ◌+◌, ◌*◌, ◌<◌, ◌≤◌, get_or, length}
use Rattle.frame_paints.proofs.compare.same_back.Given as goal

abbrev pub invariant-loop-chunk : goal.invariant-loop-chunk
invariant-loop-chunk l = (k : ℕ) → length l.a ≤ k + 64 * l.chunk → k < length l.a → get_or l.a k 0 ≡ get_or l.b k 0
