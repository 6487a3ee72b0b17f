use Rattle.std.proofs.Common.{◌≡◌, sym, ◌∙◌, ap}
use Rattle.h265_model.specs.Plain.{Size}
use Rattle.px_plane.specs.Planes.{picture_of}
use Rattle.row_coder.specs.Sources.{is_placed}
use Rattle.row_coder.proofs.Sourced.{samples_some, samples_none}
use Rattle.row_coder.proofs.predicted.fill_samples.Goals as goal

pub returns-then-is_placed : goal.returns-then-is_placed
returns-then-is_placed c =
    let size : c.size.result ≡ c.args.picture.now.size = c.size.ensures.value in
    samples_some c.args.picture.now.size (picture_of c.args.picture.now) c.args.leaf c.args.component c.fill_plain.new.out
    (ap (λ (s : Size). is_placed s c.args.leaf) (sym size) ∙ (sym c.is_placed.ensures.value ∙ c.if-is_placed.true)) c.fill_plain.ensures.side c.fill_plain.ensures.samples c.fill_plain.ensures.bytes

pub returns-else-is_placed : goal.returns-else-is_placed
returns-else-is_placed c =
    let size : c.size.result ≡ c.args.picture.now.size = c.size.ensures.value in
    samples_none c.args.picture.now.size (picture_of c.args.picture.now) c.args.leaf c.args.component _ c.zero.result
    (ap (λ (s : Size). is_placed s c.args.leaf) (sym size) ∙ (sym c.is_placed.ensures.value ∙ c.if-is_placed.false)) (c.log2-log2.ensures.value ∙ c.requires.side) c.zero.ensures
