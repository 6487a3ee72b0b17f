use Rattle.std.proofs.Common.{◌+◌, ◌*◌, ◌-◌}
use Rattle.std.specs.Prelude.{slice_index}
use Rattle.px_plane.specs.Rows.{IsPutBetween}
use Rattle.px_plane.proofs.plane.copy_from_plane.Given as goal

abbrev pub invariant-loop-y : goal.invariant-loop-y
invariant-loop-y l = IsPutBetween l.fn.plane l.plane l.stride l.left l.right l.top l.y (λ x y. slice_index l.other ((l.from_y + (y - l.top)) * l.stride + (l.from_x + (x - l.left))))
