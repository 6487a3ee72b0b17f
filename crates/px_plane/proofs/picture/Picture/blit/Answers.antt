use Rattle.std.proofs.Common.{refl}
use Rattle.px_plane.specs.Planes.{pixel_at}
use Rattle.px_plane.proofs.Painted.{part_painted, nothing_painted, inked_shows}
use Rattle.px_plane.proofs.picture.Picture.blit.Goals as goal

pub returns-in-Some-clause-painted : goal.returns-in-Some-clause-painted
returns-in-Some-clause-painted c =
    part_painted c.args.self.now c.blit_part.new.self c.args.rect c.in-Some.part (pixel_at c.args.rect c.args.pixels.now) c.in-Some.ensures.part c.blit_part.ensures

pub returns-in-Some-clause-shows : goal.returns-in-Some-clause-shows
returns-in-Some-clause-shows c = λ before shown.
    inked_shows c.args.self.now c.blit_part.new.self c.args.rect (pixel_at c.args.rect c.args.pixels.now) before c.blit_part.ensures.size c.blit_part.ensures.whole (returns-in-Some-clause-painted c) shown

pub returns-in_default-clause-painted : goal.returns-in_default-clause-painted
returns-in_default-clause-painted c = nothing_painted c.args.self.now c.args.rect (pixel_at c.args.rect c.args.pixels.now) (c.in_default.ensures.nothing refl)

pub returns-in_default-clause-shows : goal.returns-in_default-clause-shows
returns-in_default-clause-shows c = λ before shown.
    inked_shows c.args.self.now c.args.self.now c.args.rect (pixel_at c.args.rect c.args.pixels.now) before (λ i. c.args.self.now.size) c.in_default.ensures.whole (returns-in_default-clause-painted c) shown
