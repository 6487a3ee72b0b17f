use Rattle.std.proofs.Common.{◌≡◌, ℕ, ◌+◌, ◌<◌, ◌≤◌, get_or, length}
use Rattle.frame_paints.proofs.compare.back_from.Given as goal

abbrev pub invariant-loop-done : goal.invariant-loop-done
invariant-loop-done l = (k : ℕ) → l.known ≤ k + l.done → k < length l.a → get_or l.a k 0 ≡ get_or l.b k 0
