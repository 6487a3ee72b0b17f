use Rattle.std.proofs.Common.{◌≡◌, ◌++◌, List, sym, ◌∙◌, ap, subst}
use Rattle.h265_model.specs.Plain.{Size}
use Rattle.recorder_model.specs.declared.line.Line.{Line}
use Rattle.recorder_model.specs.Painting.{raster}
use Rattle.frame_paints.specs.Desktop.{Desktop, raster_of, painted_over, with_rows, added}
use Rattle.frame_paints.specs.Parts.{SameBetween, KeptBeside}
use Rattle.frame_paints.proofs.Going.{on_ok_both}
use Rattle.frame_paints.proofs.Desktops.{went_shows, went_longer, went_painted, went_history, went_uncut, rows_shown}
use Rattle.frame_paints.proofs.painter.FramePainter.paint_rows.Goals as goal

pub invariant_of-self : goal.invariant_of-self
invariant_of-self c = went_shows c.self.inside.shown c.paint_strip.new.shown c.args.script.now c.paint_strip.new.script c.self.invariant c.paint_strip.ensures.went

pub returns-clause-longer : goal.returns-clause-longer
returns-clause-longer c = went_longer c.self.inside.shown c.paint_strip.new.shown c.args.script.now c.paint_strip.new.script c.paint_strip.ensures.went

pub returns-clause-shown : goal.returns-clause-shown
returns-clause-shown c =
    subst (λ (d : Desktop). raster_of c.paint_strip.new.shown ≡ painted_over d.size d.shown (added c.args.script.now c.paint_strip.new.script)) c.self.view_is
    (went_painted c.self.inside.shown c.paint_strip.new.shown c.args.script.now c.paint_strip.new.script c.self.invariant c.paint_strip.ensures.went)

pub returns-clause-rows : goal.returns-clause-rows
returns-clause-rows c =
    let of_frame : c.args.frame.now.size ≡ c.self.inside.shown.size = c.requires.size ∙ sym (ap (λ (d : Desktop). d.size) c.self.view_is) in
    on_ok_both c.paint_strip.result
    (λ same kept.
    subst (λ (d : Desktop). raster_of c.paint_strip.new.shown ≡ with_rows d.size d.shown c.args.top c.args.bottom (raster_of c.args.frame.now)) c.self.view_is
    (rows_shown c.self.inside.shown c.paint_strip.new.shown c.args.frame.now c.args.top c.args.bottom c.paint_strip.ensures.went.size of_frame
    (subst (λ (s : Size). SameBetween c.paint_strip.new.shown c.args.frame.now 0 s.w c.args.top c.args.bottom) of_frame same)
    (subst (λ (s : Size). KeptBeside c.self.inside.shown c.paint_strip.new.shown 0 s.w c.args.top c.args.bottom) of_frame kept)))
    c.paint_strip.ensures.painted c.paint_strip.ensures.beside

pub returns-clause-history : goal.returns-clause-history
returns-clause-history c =
    subst (λ (d : Desktop). (before : List Line) → raster d.size before ≡ d.shown → raster d.size (before ++ added c.args.script.now c.paint_strip.new.script) ≡ raster_of c.paint_strip.new.shown) c.self.view_is
    (went_history c.self.inside.shown c.paint_strip.new.shown c.args.script.now c.paint_strip.new.script c.self.invariant c.paint_strip.ensures.went)

pub returns-clause-uncut : goal.returns-clause-uncut
returns-clause-uncut c = λ before. went_uncut c.self.inside.shown c.paint_strip.new.shown c.args.script.now c.paint_strip.new.script c.paint_strip.ensures.went c.args.self.now.size before
