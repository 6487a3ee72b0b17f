use Rattle.std.proofs.Common.{sym, subst, List}
use Rattle.h265_model.specs.declared.rgb.Rgb.{Rgb}
use Rattle.recorder_model.specs.declared.line.Line.{Line}
use Rattle.recorder_model.specs.Painting.{painted}
use Rattle.px_plane.specs.Planes.{ShowsColours, repainted, pixel_at}
use Rattle.frame_paints.proofs.lines.paint.Goals as goal

pub returns-in-Fill-clause-shows : goal.returns-in-Fill-clause-shows
returns-in-Fill-clause-shows c = λ before shown. subst (λ (l : Line). ShowsColours c.fill.new.self (painted c.args.shown.now.size before l)) (sym c.in-Fill.is) (c.fill.ensures.shows before shown)

pub returns-in-Blit-clause-shows : goal.returns-in-Blit-clause-shows
returns-in-Blit-clause-shows c = λ before shown. subst (λ (l : Line). ShowsColours c.blit.new.self (painted c.args.shown.now.size before l)) (sym c.in-Blit.is)
    (subst (λ (pixels : List Rgb). ShowsColours c.blit.new.self (repainted c.in-Blit.rect (pixel_at c.in-Blit.rect pixels) before)) c.as_slice.ensures (c.blit.ensures.shows before shown))

pub returns-in-Copy-clause-shows : goal.returns-in-Copy-clause-shows
returns-in-Copy-clause-shows c = λ before shown. subst (λ (l : Line). ShowsColours c.copy.new.self (painted c.args.shown.now.size before l)) (sym c.in-Copy.is) (c.copy.ensures.shows before shown)

pub returns-in-Cut-clause-shows : goal.returns-in-Cut-clause-shows
returns-in-Cut-clause-shows c = λ before shown. subst (λ (l : Line). ShowsColours c.args.shown.now (painted c.args.shown.now.size before l)) (sym c.in-Cut.is) shown
