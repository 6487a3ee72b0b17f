use Rattle.std.proofs.Common.{◌∷◌, ℕ, List, Option, false, Ok, Err}
use Rattle.frame_read.specs.declared.error.HeadNumber.TheVariants.{Width, Height, Maximum}
use Rattle.frame_read.specs.declared.error.FrameError.TheVariants.{Bad}
use Rattle.frame_read.specs.Heads.{head_of, magic_of}
use Rattle.frame_read.specs.Numbers.{number_from, before_number}
use Rattle.frame_read.proofs.Calls.{reads_bind, fails_bind, reads_at_err}
use Rattle.frame_read.proofs.HeadParts.{from_width, from_height, from_maximum, judged, is_judged, not_judged}
use Rattle.frame_read.proofs.head.read_rest.Goals as goal

pub returns-in_err-in_comment-clause-bytes : goal.returns-in_err-in_comment-clause-bytes
unfolding head_of
returns-in_err-in_comment-clause-bytes g c =
    let s0 : Option (List ℕ) = g.S.Source.left c.args.source.now in
    let s1 : Option (List ℕ) = g.S.Source.left c.read_magic.new.source in
    reads_at_err _ s0 s1 c.in_err-in_comment.field-0.0 c.from_residual.result c.from_residual.ensures.1
    (fails_bind (λ rest. magic_of (c.args.first ∷ rest)) (from_width c.args.like) s0 s1 c.in_err-in_comment.field-0.0 c.in_err-in_comment.ensures.bytes)

pub returns-in_err-w-clause-bytes : goal.returns-in_err-w-clause-bytes
unfolding head_of
returns-in_err-w-clause-bytes g c =
    let s0 : Option (List ℕ) = g.S.Source.left c.args.source.now in
    let s1 : Option (List ℕ) = g.S.Source.left c.read_magic.new.source in
    let s2 : Option (List ℕ) = g.S.Source.left c.read_number.new.source in
    reads_at_err _ s0 s2 c.in_err-w.field-0.0 c.from_residual-in_err-w.result c.from_residual-in_err-w.ensures.1
    (reads_bind (λ rest. magic_of (c.args.first ∷ rest)) (from_width c.args.like) s0 s1 s2 c.in_ok-in_comment.in_comment (Err c.in_err-w.field-0.0) c.in_ok-in_comment.ensures.bytes
    (fails_bind (number_from Width (before_number c.in_ok-in_comment.in_comment)) (from_height c.args.like) s1 s2 c.in_err-w.field-0.0 c.in_err-w.ensures.bytes))

pub returns-in_err-h-clause-bytes : goal.returns-in_err-h-clause-bytes
unfolding head_of
returns-in_err-h-clause-bytes g c =
    let s0 : Option (List ℕ) = g.S.Source.left c.args.source.now in
    let s1 : Option (List ℕ) = g.S.Source.left c.read_magic.new.source in
    let s2 : Option (List ℕ) = g.S.Source.left c.read_number.new.source in
    let s3 : Option (List ℕ) = g.S.Source.left c.read_number-2.new.source in
    reads_at_err _ s0 s3 c.in_err-h.field-0.0 c.from_residual-in_err-h.result c.from_residual-in_err-h.ensures.1
    (reads_bind (λ rest. magic_of (c.args.first ∷ rest)) (from_width c.args.like) s0 s1 s3 c.in_ok-in_comment.in_comment (Err c.in_err-h.field-0.0) c.in_ok-in_comment.ensures.bytes
    (reads_bind (number_from Width (before_number c.in_ok-in_comment.in_comment)) (from_height c.args.like) s1 s2 s3 c.in_ok-w.w (Err c.in_err-h.field-0.0) c.in_ok-w.ensures.bytes
    (fails_bind (number_from Height (before_number false)) (from_maximum c.args.like c.in_ok-w.w) s2 s3 c.in_err-h.field-0.0 c.in_err-h.ensures.bytes)))

pub returns-in_err-maximum-clause-bytes : goal.returns-in_err-maximum-clause-bytes
unfolding head_of
returns-in_err-maximum-clause-bytes g c =
    let s0 : Option (List ℕ) = g.S.Source.left c.args.source.now in
    let s1 : Option (List ℕ) = g.S.Source.left c.read_magic.new.source in
    let s2 : Option (List ℕ) = g.S.Source.left c.read_number.new.source in
    let s3 : Option (List ℕ) = g.S.Source.left c.read_number-2.new.source in
    let s4 : Option (List ℕ) = g.S.Source.left c.read_number-3.new.source in
    reads_at_err _ s0 s4 c.in_err-maximum.field-0.0 c.from_residual-in_err-maximum.result c.from_residual-in_err-maximum.ensures.1
    (reads_bind (λ rest. magic_of (c.args.first ∷ rest)) (from_width c.args.like) s0 s1 s4 c.in_ok-in_comment.in_comment (Err c.in_err-maximum.field-0.0) c.in_ok-in_comment.ensures.bytes
    (reads_bind (number_from Width (before_number c.in_ok-in_comment.in_comment)) (from_height c.args.like) s1 s2 s4 c.in_ok-w.w (Err c.in_err-maximum.field-0.0) c.in_ok-w.ensures.bytes
    (reads_bind (number_from Height (before_number false)) (from_maximum c.args.like c.in_ok-w.w) s2 s3 s4 c.in_ok-h.h (Err c.in_err-maximum.field-0.0) c.in_ok-h.ensures.bytes
    (fails_bind (number_from Maximum (before_number false)) (judged c.args.like c.in_ok-w.w c.in_ok-h.h) s3 s4 c.in_err-maximum.field-0.0 c.in_err-maximum.ensures.bytes))))

pub returns-in_err-size-clause-bytes : goal.returns-in_err-size-clause-bytes
unfolding head_of
returns-in_err-size-clause-bytes g c =
    let s0 : Option (List ℕ) = g.S.Source.left c.args.source.now in
    let s1 : Option (List ℕ) = g.S.Source.left c.read_magic.new.source in
    let s2 : Option (List ℕ) = g.S.Source.left c.read_number.new.source in
    let s3 : Option (List ℕ) = g.S.Source.left c.read_number-2.new.source in
    let s4 : Option (List ℕ) = g.S.Source.left c.read_number-3.new.source in
    reads_at_err _ s0 s4 (Bad c.in_err-size.field-0.0) c.from_residual-in_err-size.result c.from_residual-in_err-size.ensures.1
    (reads_bind (λ rest. magic_of (c.args.first ∷ rest)) (from_width c.args.like) s0 s1 s4 c.in_ok-in_comment.in_comment (Err (Bad c.in_err-size.field-0.0)) c.in_ok-in_comment.ensures.bytes
    (reads_bind (number_from Width (before_number c.in_ok-in_comment.in_comment)) (from_height c.args.like) s1 s2 s4 c.in_ok-w.w (Err (Bad c.in_err-size.field-0.0)) c.in_ok-w.ensures.bytes
    (reads_bind (number_from Height (before_number false)) (from_maximum c.args.like c.in_ok-w.w) s2 s3 s4 c.in_ok-h.h (Err (Bad c.in_err-size.field-0.0)) c.in_ok-h.ensures.bytes
    (not_judged c.args.like c.in_ok-w.w c.in_ok-h.h c.in_ok-maximum.maximum s3 s4 c.in_err-size.field-0.0 c.in_ok-maximum.ensures.bytes c.in_err-size.ensures))))

pub returns-clause-bytes : goal.returns-clause-bytes
unfolding head_of
returns-clause-bytes g c =
    let s0 : Option (List ℕ) = g.S.Source.left c.args.source.now in
    let s1 : Option (List ℕ) = g.S.Source.left c.read_magic.new.source in
    let s2 : Option (List ℕ) = g.S.Source.left c.read_number.new.source in
    let s3 : Option (List ℕ) = g.S.Source.left c.read_number-2.new.source in
    let s4 : Option (List ℕ) = g.S.Source.left c.read_number-3.new.source in
    (reads_bind (λ rest. magic_of (c.args.first ∷ rest)) (from_width c.args.like) s0 s1 s4 c.in_ok-in_comment.in_comment (Ok c.in_ok-size.size) c.in_ok-in_comment.ensures.bytes
    (reads_bind (number_from Width (before_number c.in_ok-in_comment.in_comment)) (from_height c.args.like) s1 s2 s4 c.in_ok-w.w (Ok c.in_ok-size.size) c.in_ok-w.ensures.bytes
    (reads_bind (number_from Height (before_number false)) (from_maximum c.args.like c.in_ok-w.w) s2 s3 s4 c.in_ok-h.h (Ok c.in_ok-size.size) c.in_ok-h.ensures.bytes
    (is_judged c.args.like c.in_ok-w.w c.in_ok-h.h c.in_ok-maximum.maximum s3 s4 c.in_ok-size.size c.in_ok-maximum.ensures.bytes c.in_ok-size.ensures))))
