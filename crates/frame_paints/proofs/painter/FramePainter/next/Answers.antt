use Rattle.std.proofs.Common.{◌≡◌, ◌++◌, List, sym, ◌∙◌, ap}
use Rattle.h265_model.specs.Plain.{Size}
use Rattle.recorder_model.specs.declared.line.Line.{Line}
use Rattle.recorder_model.specs.Painting.{raster, rasters_after}
use Rattle.frame_paints.specs.Desktop.{raster_of, painted_over, added}
use Rattle.frame_paints.proofs.Desktops.{cut_added, cut_painted, cut_history, cut_picture, all_rows}
use Rattle.frame_paints.proofs.painter.FramePainter.next.Goals as goal

pub returns-clause-frame : goal.returns-clause-frame
returns-clause-frame c =
    let size = c.args.self.now.size in
    let before = c.args.self.now.shown in
    let lines = added c.args.script.now c.paint_rows.new.script in
    let bottom : c.h-bottom.result ≡ size.h = c.h-bottom.ensures.value ∙ ap (λ (s : Size). s.h) (c.size.ensures.value ∙ c.requires.size) in
    ap (painted_over size before) (cut_added c.args.script.now c.paint_rows.new.script c.add.new.self c.in_ok-paint_rows.ensures.longer c.in_ok-add.ensures.added)
    ∙ (cut_painted size before lines ∙ (sym c.in_ok-paint_rows.ensures.shown
    ∙ (c.in_ok-paint_rows.ensures.rows ∙ all_rows size before c.args.frame.now c.h-bottom.result c.requires.size bottom)))

pub returns-clause-history : goal.returns-clause-history
returns-clause-history c = λ before is.
    let size = c.args.self.now.size in
    let lines = added c.args.script.now c.paint_rows.new.script in
    ap (λ (l : List Line). raster size (before ++ l)) (cut_added c.args.script.now c.paint_rows.new.script c.add.new.self c.in_ok-paint_rows.ensures.longer c.in_ok-add.ensures.added)
    ∙ (cut_history size before lines ∙ c.in_ok-paint_rows.ensures.history before is)

pub returns-clause-picture : goal.returns-clause-picture
returns-clause-picture c = λ before is.
    let size = c.args.self.now.size in
    let lines = added c.args.script.now c.paint_rows.new.script in
    let bottom : c.h-bottom.result ≡ size.h = c.h-bottom.ensures.value ∙ ap (λ (s : Size). s.h) (c.size.ensures.value ∙ c.requires.size) in
    ap (rasters_after size before) (cut_added c.args.script.now c.paint_rows.new.script c.add.new.self c.in_ok-paint_rows.ensures.longer c.in_ok-add.ensures.added)
    ∙ cut_picture size before lines c.paint_rows.new.self.shown (raster_of c.args.frame.now) (c.in_ok-paint_rows.ensures.uncut before) (c.in_ok-paint_rows.ensures.history before is)
    (c.in_ok-paint_rows.ensures.rows ∙ all_rows size c.args.self.now.shown c.args.frame.now c.h-bottom.result c.requires.size bottom)
