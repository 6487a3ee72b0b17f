use Rattle.std.proofs.Common.{◌∙◌, ap}
use Rattle.std.proofs.lemmas.Result.{on_ok_weaker}
use Rattle.px_plane.specs.Planes.{picture_of}
use Rattle.h265_model.specs.Plain.{Size}
use Rattle.h265_model.specs.Raster.{crop}
use Rattle.frames.proofs.Mixes.{frame-is}
use Rattle.frames.proofs.frame.append_parts.Goals as goal

pub returns-clause-ok : goal.returns-clause-ok
returns-clause-ok c =
    on_ok_weaker c.append_rows.result (frame-is c.args.out.now.items c.append_head.new.out.items c.append_rows.new.out.items c.args.picture.now.size (crop c.args.picture.now.size (picture_of c.args.picture.now)) c.w.result c.h.result (c.w.ensures.value ∙ ap (λ (s : Size). s.w) c.size-size.ensures.value) (c.h.ensures.value ∙ ap (λ (s : Size). s.h) c.size-size.ensures.value) c.in_ok-append_head.ensures.ok) c.append_rows.ensures.ok
