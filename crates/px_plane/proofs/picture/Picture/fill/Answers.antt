use Rattle.std.proofs.Common.{rules}
use Rattle.px_plane.proofs.Painted.{part_painted, inked_shows}
use Rattle.px_plane.proofs.picture.Picture.fill.Goals as goal

pub returns-in-Some-clause-painted : goal.returns-in-Some-clause-painted
returns-in-Some-clause-painted c =
    part_painted c.args.self.now c.fill_part.new.self c.args.rect c.in-Some.part (λ x y. c.args.colour) c.in-Some.ensures.part c.fill_part.ensures

pub returns-in-Some-clause-shows : goal.returns-in-Some-clause-shows
returns-in-Some-clause-shows c = λ before shown.
    inked_shows c.args.self.now c.fill_part.new.self c.args.rect (λ x y. c.args.colour) before c.fill_part.ensures.size c.fill_part.ensures.whole (returns-in-Some-clause-painted c) shown

pub returns-in_default-clause-painted : goal.returns-in_default-clause-painted
returns-in_default-clause-painted c = search rules

pub returns-in_default-clause-shows : goal.returns-in_default-clause-shows
returns-in_default-clause-shows c = λ before shown.
    inked_shows c.args.self.now c.args.self.now c.args.rect (λ x y. c.args.colour) before (λ i. c.args.self.now.size) c.in_default.ensures.whole (returns-in_default-clause-painted c) shown
