use Rattle.std.proofs.Common.{◌≡◌}
use Rattle.frame_paints.proofs.tests.the_lines_give_the_frames.Given as goal

abbrev pub invariant-loop-step : goal.invariant-loop-step
invariant-loop-step g l = l.frame.size ≡ l.painter.size
