use Rattle.px_plane.specs.Rows.{IsPutBetween, sample_at}
use Rattle.px_plane.proofs.plane.lay_plane.Given as goal

abbrev pub invariant-loop-y : goal.invariant-loop-y
invariant-loop-y l = IsPutBetween l.fn.plane l.plane l.stride l.left l.right l.top l.y (λ x y. sample_at l.fn.part l.samples l.number x y)
