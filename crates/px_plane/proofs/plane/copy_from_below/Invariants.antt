use Rattle.px_plane.specs.Rows.{IsPutBetween, sample_from}
use Rattle.px_plane.proofs.plane.copy_from_below.Given as goal

abbrev pub invariant-loop-y : goal.invariant-loop-y
invariant-loop-y l = IsPutBetween l.fn.plane l.plane l.stride l.left l.right l.top l.y (sample_from l.fn.plane l.stride l.fn.part l.from_x l.from_y)
