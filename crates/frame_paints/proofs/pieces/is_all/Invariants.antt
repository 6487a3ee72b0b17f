use Rattle.std.proofs.Common.{◌≡◌, ℕ, ◌<◌, get_or, ◌↔◌}
use Rattle.std.specs.Prelude.{IsTrue}
use Rattle.frame_paints.proofs.pieces.is_all.Given as goal

abbrev pub invariant-loop-i : goal.invariant-loop-i
invariant-loop-i l = IsTrue l.same ↔ ((k : ℕ) → k < l.i → get_or l.row k 0 ≡ l.sample)
