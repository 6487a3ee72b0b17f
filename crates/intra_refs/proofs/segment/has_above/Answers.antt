use Rattle.std.proofs.Common.{◌-◌, sym, ap, ◌∙◌}
use Rattle.h265_model.specs.Plain.{Size}
use Rattle.h265_model.specs.Predict.{is_available}
use Rattle.px_plane.specs.Planes.{picture_of}
use Rattle.intra_refs.proofs.Segments.{above_all}
use Rattle.intra_refs.proofs.segment.has_above.Goals as goal

pub returns-then-y-gt0-clause-same : goal.returns-then-y-gt0-clause-same
returns-then-y-gt0-clause-same c =
    above_all c.args.picture.now.size (picture_of c.args.picture.now) c.args.component c.args.x c.args.y c.args.column c.is_available.result
    c.requires.whole_x c.requires.whole_y c.requires.whole_column c.if-y-gt0.true
    (sym (c.is_available.ensures ∙ ap (λ (s : Size). is_available s c.args.x c.args.y c.args.column (c.args.y - 1)) c.size.ensures.value))
