use Rattle.std.proofs.Common.{◌≡◌, ℕ, ◌<◌, ◌≤◌, ◌+◌, ◌-◌, ◌*◌, ◌/◌, get_or}
use Rattle.intra_refs.proofs.smooth.smooth.Given as goal

abbrev pub invariant-loop-i : goal.invariant-loop-i
invariant-loop-i l = record {
  first : get_or l.out 0 0 ≡ get_or l.line 0 0;
  inner : (k : ℕ) → 1 ≤ k → k < l.i → get_or l.out k 0 ≡ (get_or l.line (k - 1) 0 + 2 * get_or l.line k 0 + get_or l.line (k + 1) 0 + 2) / 4;
}
