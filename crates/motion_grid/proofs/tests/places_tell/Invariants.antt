use Rattle.std.proofs.Common.{◌≡◌}
use Rattle.motion_grid.proofs.tests.places_tell.Given as goal

abbrev pub invariant-loop-x : goal.invariant-loop-x
invariant-loop-x g l = l.grid.size ≡ record { w = 70; h = 40 }
