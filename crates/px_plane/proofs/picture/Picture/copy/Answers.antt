use Rattle.std.proofs.Common.{refl}
use Rattle.px_plane.proofs.Copies.{part_copied, nothing_copied, copy_shows}
use Rattle.px_plane.proofs.picture.Picture.copy.Goals as goal

pub returns-in-Some-clause-painted : goal.returns-in-Some-clause-painted
returns-in-Some-clause-painted c =
    part_copied c.args.self.now c.copy_part.new.self c.args.rect c.args.to_x c.args.to_y c.in-Some.part c.in-Some.ensures.part c.copy_part.ensures

pub returns-in-Some-clause-shows : goal.returns-in-Some-clause-shows
returns-in-Some-clause-shows c = λ lines shown.
    copy_shows c.args.self.now c.copy_part.new.self c.args.rect c.args.to_x c.args.to_y lines c.copy_part.ensures.size c.copy_part.ensures.whole (returns-in-Some-clause-painted c) shown

pub returns-in_default-clause-painted : goal.returns-in_default-clause-painted
returns-in_default-clause-painted c = nothing_copied c.args.self.now c.args.rect c.args.to_x c.args.to_y (c.in_default.ensures.nothing refl)

pub returns-in_default-clause-shows : goal.returns-in_default-clause-shows
returns-in_default-clause-shows c = λ lines shown.
    copy_shows c.args.self.now c.args.self.now c.args.rect c.args.to_x c.args.to_y lines (λ i. c.args.self.now.size) c.in_default.ensures.whole (returns-in_default-clause-painted c) shown
