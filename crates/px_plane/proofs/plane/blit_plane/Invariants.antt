use Rattle.h265_model.specs.Raster.{component}
use Rattle.px_plane.specs.Planes.{pixel_at}
use Rattle.px_plane.specs.Rows.{IsPutBetween}
use Rattle.px_plane.proofs.plane.blit_plane.Given as goal

abbrev pub invariant-loop-y : goal.invariant-loop-y
invariant-loop-y l = IsPutBetween l.fn.plane l.plane l.stride l.left l.right l.top l.y (λ x y. component l.number (pixel_at l.rect l.pixels x y))
