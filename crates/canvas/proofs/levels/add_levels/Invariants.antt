use Rattle.std.proofs.Common.{◌≡◌, ℕ, ◌<◌, ◌≤◌, get_or}
use Rattle.std.specs.Prelude.{pos, ◌+ℤ◌}
use Rattle.h265_model.specs.Contexts.{clip}
use Rattle.canvas.proofs.levels.add_levels.Given as goal

abbrev pub invariant-loop-i : goal.invariant-loop-i
invariant-loop-i l =
    ((k : ℕ) → k < l.i → get_or l.samples k 0 ≡ clip 0 255 (pos (get_or l.fn.samples k 0) +ℤ get_or l.levels k (pos 0))) × ((k : ℕ) → l.i ≤ k → get_or l.samples k 0 ≡ get_or l.fn.samples k 0)
