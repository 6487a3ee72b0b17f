use Rattle.std.proofs.Common.{◌-◌}
use Rattle.px_plane.specs.Rows.{IsPutBetween, sample_from}
use Rattle.px_plane.proofs.plane.copy_from_above.Given as goal

abbrev pub invariant-loop-done : goal.invariant-loop-done
invariant-loop-done l = IsPutBetween l.fn.plane l.plane l.stride l.left l.right (l.bottom - l.done) l.bottom (sample_from l.fn.plane l.stride l.fn.part l.from_x l.from_y)
