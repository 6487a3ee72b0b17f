use Rattle.px_plane.specs.Rows.{IsPutBetween}
use Rattle.px_plane.proofs.plane.fill_plane.Given as goal

abbrev pub invariant-loop-y : goal.invariant-loop-y
invariant-loop-y l = IsPutBetween l.fn.plane l.plane l.stride l.left l.right l.top l.y (λ x y. l.value)
