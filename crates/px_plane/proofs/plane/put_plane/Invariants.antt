use Rattle.px_plane.specs.Rows.{IsPutBetween, row_sample}
use Rattle.px_plane.proofs.plane.put_plane.Given as goal

abbrev pub invariant-loop-y : goal.invariant-loop-y
invariant-loop-y l = IsPutBetween l.fn.plane l.plane l.stride l.left l.right l.top l.y (row_sample l.fn.part l.samples)
