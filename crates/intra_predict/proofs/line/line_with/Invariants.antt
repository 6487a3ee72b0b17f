use Rattle.std.proofs.Common.{◌≡◌, ℕ, ◌<◌, ◌≤◌, ◌+◌, ◌-◌, ◌*◌, ◌/◌, get_or, length, not}
use Rattle.intra_predict.specs.Sides.{side_of}
use Rattle.intra_predict.proofs.line.line_with.Given as goal

abbrev pub invariant-loop-i : goal.invariant-loop-i
invariant-loop-i l = record {
  long : length l.line ≡ 98;
  ahead : (i : ℕ) → i < l.i → get_or l.line (32 + i) 0 ≡ side_of l.above l.refs l.n i;
}

abbrev pub invariant-loop-k : goal.invariant-loop-k
invariant-loop-k l = record {
  long : length l.line ≡ 98;
  ahead : (i : ℕ) → i ≤ 2 * l.n + 1 → get_or l.line (32 + i) 0 ≡ side_of l.above l.refs l.n i;
  behind : (k : ℕ) → 1 ≤ k → k < l.k → get_or l.line (32 - k) 0 ≡ side_of (not l.above) l.refs l.n ((k * l.inverse + 128) / 256);
}
