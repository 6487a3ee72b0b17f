use Rattle.std.proofs.Common.{◌≡◌, ◌∙◌, sym, ap, subst, ◌+◌, ◌-◌, not, Option, Bool}
use Rattle.std.specs.Prelude.{◌==◌}
use Rattle.h265_model.specs.Engine.{Engine}
use Rattle.h265_model.specs.Residual.{sig_at, sig_context, place_at, scan}
use Rattle.cabac_dec.specs.State.{Answers}
use Rattle.residual_read.specs.Parts.{shape_of, sub_of}
use Rattle.residual_read.proofs.SigTable.{sig_later, never_implied}
use Rattle.residual_read.proofs.flags.read_later.Goals as goal

pub returns-clause-value : goal.returns-clause-value
returns-clause-value c =
    let s = c.args.shape in
    let b = c.args.sub in
    let k = c.args.number in
    let is : c.args.start + c.within.result ≡ sig_at (shape_of s) (sub_of b) k =
    sig_later s.component s.log2 s.scan b.x b.y k c.args.start c.within.result b.right b.below c.requires.later c.requires.number c.requires.start c.within.ensures
    ∙ ap (λ n. sig_context s.component s.log2 s.scan n b.y (place_at (scan s.scan 2) k).0 (place_at (scan s.scan 2) k).1 b.right b.below) c.requires.sub.x
    ∙ ap (λ n. sig_context s.component s.log2 s.scan (place_at (scan s.scan (s.log2 - 2)) b.number).0 n (place_at (scan s.scan 2) k).0 (place_at (scan s.scan 2) k).1 b.right b.below) c.requires.sub.y in
    subst (λ (r : Option (Bool × Engine)). Answers c.bin.result r c.bin.new.self)
    (sym (never_implied (shape_of s) (sub_of b) c.args.inner (not (c.args.flags == 0)) k (c.args.start + c.within.result) c.args.decoder.now c.requires.later is)) c.bin.ensures.value
