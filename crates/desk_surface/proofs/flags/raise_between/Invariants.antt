use Rattle.std.proofs.Common.{◌≡◌, ℕ, ◌<◌, ◌/◌, ◌%◌, ◌||◌, length, slice_index_or, false}
use Rattle.desk_surface.specs.Damage.{is_between}
use Rattle.desk_surface.proofs.flags.raise_between.Given as goal

abbrev pub invariant-loop-row : goal.invariant-loop-row
invariant-loop-row l = record {
  long : length l.flags ≡ length l.fn.flags;
  raised : (t : ℕ) → t < length l.fn.flags → slice_index_or l.flags t false ≡ (slice_index_or l.fn.flags t false || is_between l.left l.right l.top l.row (t % l.across) (t / l.across));
}
