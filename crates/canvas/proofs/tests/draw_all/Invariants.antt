use Rattle.std.proofs.Common.{◌≡◌}
use Rattle.canvas.proofs.tests.draw_all.Given as goal

abbrev pub invariant-loop-unit : goal.invariant-loop-unit
invariant-loop-unit l = l.canvas.last.size ≡ record { w = 40; h = 24 }
