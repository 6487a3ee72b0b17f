use Rattle.std.proofs.Common.{◌≡◌, ◌≤◌, ◌<◌, ◌-◌, ℕ, length, get_or}
use Rattle.annexb.proofs.starts.front_zeros.Given as goal

-- only zeros were passed
abbrev pub invariant-loop-zeros : goal.invariant-loop-zeros
invariant-loop-zeros l = (l.zeros ≤ length l.bytes) × ((k : ℕ) → k < l.zeros → get_or l.bytes k 0 ≡ 0)

abbrev pub decreases-loop-zeros : goal.decreases-loop-zeros
decreases-loop-zeros l = length l.bytes - l.zeros
