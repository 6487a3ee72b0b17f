use Rattle.std.proofs.Common.{◌≡◌}
use Rattle.frame_paints.proofs.tests.what_changes_is_painted.Given as goal

abbrev pub invariant-loop-painted : goal.invariant-loop-painted
invariant-loop-painted g l = l.frame.size ≡ l.painter.size
