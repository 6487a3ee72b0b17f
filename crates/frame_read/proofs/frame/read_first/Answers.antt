use Rattle.std.proofs.Common.{◌≡◌, List, ℕ, Option, Ok, Err, Some, None, ap, sym, subst, ◌∙◌}
use Rattle.h265_model.specs.Plain.{Size}
use Rattle.px_plane.specs.Planes.{Planes, black}
use Rattle.frame_read.specs.Answers.{ReadsBy}
use Rattle.frame_read.specs.Heads.{next_head}
use Rattle.frame_read.specs.Pixels.{pixels_of, IsClean}
use Rattle.frame_read.proofs.Clean.{black_clean}
use Rattle.frame_read.proofs.FrameParts.{no_frame, no_head, whole_frame, no_pixels, first_at_err}
use Rattle.frame_read.proofs.frame.read_first.Goals as goal

no_size : Size
no_size = record { w = 0; h = 0 }

pub returns-in_err-size-clause-bytes : goal.returns-in_err-size-clause-bytes
returns-in_err-size-clause-bytes g c =
    let a : Option (List ℕ) = g.S.Source.left c.args.source.now in
    let b : Option (List ℕ) = g.S.Source.left c.read_head.new.source in
    first_at_err a b c.in_err-size.field-0.0 c.from_residual.result c.from_residual.ensures.1
    (no_head None no_size a b c.in_err-size.field-0.0 c.in_err-size.ensures.bytes)

pub returns-in_default-clause-bytes : goal.returns-in_default-clause-bytes
returns-in_default-clause-bytes g c =
    let a : Option (List ℕ) = g.S.Source.left c.args.source.now in
    let b : Option (List ℕ) = g.S.Source.left c.read_head.new.source in
    no_frame None no_size a b (subst (λ (o : Option Size). ReadsBy (next_head None) a b (Ok o)) c.in_default.is c.in_ok-size.ensures.bytes)

pub returns-clause-bytes : goal.returns-clause-bytes
returns-clause-bytes g c =
    let a : Option (List ℕ) = g.S.Source.left c.args.source.now in
    let b : Option (List ℕ) = g.S.Source.left c.read_head.new.source in
    let d : Option (List ℕ) = g.S.Source.left c.read_pixels.new.source in
    whole_frame None c.in_ok-picture.picture.size a b c.in-Some.size c.read_pixels.new.picture d
    (λ was rest e. ap (λ (p : Planes). p.size) (sym c.in_ok-picture.ensures.value))
    (subst (λ (o : Option Size). ReadsBy (next_head None) a b (Ok o)) c.in-Some.is c.in_ok-size.ensures.bytes)
    c.in_ok-read_pixels.ensures.size c.in_ok-read_pixels.ensures.bytes

pub returns-in_err-read_pixels-clause-bytes : goal.returns-in_err-read_pixels-clause-bytes
returns-in_err-read_pixels-clause-bytes g c =
    let a : Option (List ℕ) = g.S.Source.left c.args.source.now in
    let b : Option (List ℕ) = g.S.Source.left c.read_head.new.source in
    let d : Option (List ℕ) = g.S.Source.left c.read_pixels.new.source in
    first_at_err a d c.in_err-read_pixels.field-0.0 c.from_residual-in_err-read_pixels.result c.from_residual-in_err-read_pixels.ensures.1
    (no_pixels None c.in_ok-picture.picture.size a b c.in-Some.size c.in_err-read_pixels.field-0.0 d
    (λ was rest e. ap (λ (p : Planes). p.size) (sym c.in_ok-picture.ensures.value))
    (subst (λ (o : Option Size). ReadsBy (next_head None) a b (Ok o)) c.in-Some.is c.in_ok-size.ensures.bytes)
    c.in_err-read_pixels.ensures.bytes)

pub returns-clause-clean : goal.returns-clause-clean
returns-clause-clean g c = c.in_ok-read_pixels.ensures.clean (black_clean c.in_ok-picture.picture c.in_ok-picture.ensures.shows)
