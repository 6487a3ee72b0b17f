use Rattle.std.proofs.Common.{◌-◌, sym, ap, ◌∙◌}
use Rattle.h265_model.specs.Plain.{Size}
use Rattle.h265_model.specs.Predict.{is_available}
use Rattle.px_plane.specs.Planes.{picture_of}
use Rattle.intra_refs.proofs.Segments.{left_all}
use Rattle.intra_refs.proofs.segment.has_left.Goals as goal

pub returns-then-x-gt0-clause-same : goal.returns-then-x-gt0-clause-same
returns-then-x-gt0-clause-same c =
    left_all c.args.picture.now.size (picture_of c.args.picture.now) c.args.component c.args.x c.args.y c.args.row c.is_available.result
    c.requires.whole_x c.requires.whole_y c.requires.whole_row c.if-x-gt0.true
    (sym (c.is_available.ensures ∙ ap (λ (s : Size). is_available s c.args.x c.args.y (c.args.x - 1) c.args.row) c.size.ensures.value))
