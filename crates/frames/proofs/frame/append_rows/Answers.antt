use Rattle.std.proofs.Common.{◌≡◌, ◌∙◌, ap, arith}
use Rattle.px_plane.specs.Planes.{picture_of}
use Rattle.h265_model.specs.Plain.{Size}
use Rattle.frames.proofs.Mixes.{row-more, rows-all}
use Rattle.frames.proofs.frame.append_rows.Goals as goal

pub loop-y-preserved : goal.loop-y-preserved
loop-y-preserved c = row-more c.reserve.new.self.items c.loop-y.out.items c.append_row.new.out.items c.row.result.now c.row-in-loop-y.result.now c.row-in-loop-y-2.result.now (picture_of c.args.picture.now) c.args.picture.now.size.w c.w-w.result c.loop-y.y (c.w-w.ensures.value ∙ ap (λ (s : Size). s.w) c.size-size.ensures.value) c.row.ensures.samples c.row-in-loop-y.ensures.samples c.row-in-loop-y-2.ensures.samples c.loop-y.invariant c.in_ok-append_row.ensures.ok

pub returns-clause-ok : goal.returns-clause-ok
returns-clause-ok c =
    let high : c.h-y-end.result ≡ c.args.picture.now.size.h = c.h-y-end.ensures.value ∙ ap (λ (s : Size). s.h) c.size-size.ensures.value in
    let end : c.loop-y.y ≡ c.h-y-end.result = omega arith in
    rows-all c.args.out.now.items c.reserve.new.self.items c.loop-y.out.items c.args.picture.now.size (picture_of c.args.picture.now) c.loop-y.y (end ∙ high) c.in_ok-reserve.ensures.items c.loop-y.invariant
