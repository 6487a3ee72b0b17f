use Rattle.std.proofs.Common.{List, ℕ, Option, Ok, Err, Some, None, subst}
use Rattle.h265_model.specs.Plain.{Size}
use Rattle.frame_read.specs.Answers.{ReadsBy}
use Rattle.frame_read.specs.Heads.{next_head}
use Rattle.frame_read.proofs.Likeness.{like_is}
use Rattle.frame_read.proofs.FrameParts.{no_frame, no_head, whole_frame, no_pixels, frame_at_err}
use Rattle.frame_read.proofs.frame.read_frame.Goals as goal

pub returns-in_err-read_head-clause-bytes : goal.returns-in_err-read_head-clause-bytes
returns-in_err-read_head-clause-bytes g c =
    let a : Option (List ℕ) = g.S.Source.left c.args.source.now in
    let b : Option (List ℕ) = g.S.Source.left c.read_head.new.source in
    frame_at_err c.args.picture.now.size a b c.args.picture.now c.in_err-read_head.field-0.0 c.from_residual.result c.from_residual.ensures.1
    (no_head (Some c.args.picture.now.size) c.args.picture.now.size a b c.in_err-read_head.field-0.0
    (subst (λ (t : Size). ReadsBy {A = Option Size} (next_head (Some t)) a b (Err c.in_err-read_head.field-0.0)) c.size.ensures.value c.in_err-read_head.ensures.bytes))

pub returns-in-None-clause-bytes : goal.returns-in-None-clause-bytes
returns-in-None-clause-bytes g c =
    let a : Option (List ℕ) = g.S.Source.left c.args.source.now in
    let b : Option (List ℕ) = g.S.Source.left c.read_head.new.source in
    no_frame (Some c.args.picture.now.size) c.args.picture.now.size a b
    (subst (λ (t : Size). ReadsBy (next_head (Some t)) a b (Ok None)) c.size.ensures.value
    (subst (λ (o : Option Size). ReadsBy (next_head (Some c.size.result)) a b (Ok o)) c.in-None.is c.in_ok-read_head.ensures.bytes))

pub returns-in_ok-read_pixels-in-Some-clause-bytes : goal.returns-in_ok-read_pixels-in-Some-clause-bytes
returns-in_ok-read_pixels-in-Some-clause-bytes g c =
    let a : Option (List ℕ) = g.S.Source.left c.args.source.now in
    let b : Option (List ℕ) = g.S.Source.left c.read_head.new.source in
    let d : Option (List ℕ) = g.S.Source.left c.read_pixels.new.source in
    whole_frame (Some c.args.picture.now.size) c.args.picture.now.size a b c.in-Some.field-0 c.read_pixels.new.picture d
    (λ was rest e. like_is c.args.picture.now.size was rest c.in-Some.field-0 e)
    (subst (λ (t : Size). ReadsBy (next_head (Some t)) a b (Ok (Some c.in-Some.field-0))) c.size.ensures.value
    (subst (λ (o : Option Size). ReadsBy (next_head (Some c.size.result)) a b (Ok o)) c.in-Some.is c.in_ok-read_head.ensures.bytes))
    c.in_ok-read_pixels-in-Some.ensures.size c.in_ok-read_pixels-in-Some.ensures.bytes

pub returns-in_err-read_pixels-in-Some-clause-bytes : goal.returns-in_err-read_pixels-in-Some-clause-bytes
returns-in_err-read_pixels-in-Some-clause-bytes g c =
    let a : Option (List ℕ) = g.S.Source.left c.args.source.now in
    let b : Option (List ℕ) = g.S.Source.left c.read_head.new.source in
    let d : Option (List ℕ) = g.S.Source.left c.read_pixels.new.source in
    frame_at_err c.args.picture.now.size a d c.read_pixels.new.picture c.in_err-read_pixels-in-Some.field-0.0
    c.from_residual-in_err-read_pixels-in-Some.result c.from_residual-in_err-read_pixels-in-Some.ensures.1
    (no_pixels (Some c.args.picture.now.size) c.args.picture.now.size a b c.in-Some.field-0 c.in_err-read_pixels-in-Some.field-0.0 d
    (λ was rest e. like_is c.args.picture.now.size was rest c.in-Some.field-0 e)
    (subst (λ (t : Size). ReadsBy (next_head (Some t)) a b (Ok (Some c.in-Some.field-0))) c.size.ensures.value
    (subst (λ (o : Option Size). ReadsBy (next_head (Some c.size.result)) a b (Ok o)) c.in-Some.is c.in_ok-read_head.ensures.bytes))
    c.in_err-read_pixels-in-Some.ensures.bytes)
