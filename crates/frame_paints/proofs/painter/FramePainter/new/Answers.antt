use Rattle.std.proofs.Common.{◌≡◌, ◌∙◌, ap}
use Rattle.h265_model.specs.Raster.{black, black_raster}
use Rattle.px_plane.specs.Planes.{Planes}
use Rattle.frame_paints.proofs.Shown.{raster_shown, shows_itself, desktop_is}
use Rattle.frame_paints.proofs.painter.FramePainter.new.Goals as goal

pub invariant_of-result : goal.invariant_of-result
invariant_of-result c = shows_itself c.in_ok-shown.shown (λ x y. black) c.in_ok-shown.ensures.shows

pub returns : goal.returns
returns c =
    let size : c.in_ok-shown.shown.size ≡ c.args.size = ap (λ (p : Planes). p.size) c.in_ok-shown.ensures.value in
    desktop_is c.in_ok-shown.shown c.args.size (black_raster c.args.size) size
    (raster_shown c.in_ok-shown.shown (λ x y. black) c.in_ok-shown.ensures.shows ∙ ap black_raster size)
