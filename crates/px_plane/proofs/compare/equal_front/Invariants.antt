use Rattle.std.proofs.Common.{◌≡◌, ℕ, ◌<◌, true}
use Rattle.px_plane.specs.Blocks.{row_same}
use Rattle.px_plane.proofs.compare.equal_front.Given as goal

abbrev pub invariant-loop-i : goal.invariant-loop-i
invariant-loop-i l = (k : ℕ) → k < l.i → row_same l.fn.a l.fn.b k ≡ true
