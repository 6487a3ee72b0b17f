use Rattle.std.proofs.Common.{◌≡◌, ◌*◌, ◌≤◌, length, ap, subst, ◌∙◌, arith}
use Rattle.std.specs.Prelude.{IsTrue}
use Rattle.h265_model.specs.Plain.{Size}
use Rattle.h265_model.specs.Settings.{is_size}
use Rattle.frame_read.proofs.FrameRows.{none_read, rows_more}
use Rattle.frame_read.proofs.WholeFrames.{all_read, still_clean, rows_fail, pixels_at_err, strip_long}
use Rattle.frame_read.proofs.pixels.read_rows.Goals as goal

pub loop-y-init : goal.loop-y-init
loop-y-init g c = none_read c.args.picture.now (g.S.Source.left c.args.source.now) (g.S.Source.faults c.args.source.now)

pub returns-clause-bytes : goal.returns-clause-bytes
returns-clause-bytes g c =
    let high : c.h-h.result ≡ c.args.picture.now.size.h = c.h-h.ensures.value ∙ ap (λ (s : Size). s.h) c.size-size.ensures.value in
    let within : c.loop-y.y ≤ c.args.picture.now.size.h = c.loop-y.invariant.within in
    all_read c.args.picture.now c.loop-y.picture c.loop-y.y (g.S.Source.left c.args.source.now) (g.S.Source.left c.loop-y.source) _ _ c.loop-y.invariant (omega arith) (subst (λ (s : Size). IsTrue (is_size s)) c.size-size.ensures.value c.size-size.ensures.within)

pub returns-clause-clean : goal.returns-clause-clean
returns-clause-clean g c =
    let high : c.h-h.result ≡ c.args.picture.now.size.h = c.h-h.ensures.value ∙ ap (λ (s : Size). s.h) c.size-size.ensures.value in
    let within : c.loop-y.y ≤ c.args.picture.now.size.h = c.loop-y.invariant.within in
    still_clean c.args.picture.now c.loop-y.picture c.loop-y.y (g.S.Source.left c.args.source.now) (g.S.Source.left c.loop-y.source) _ _ c.loop-y.invariant (omega arith) (subst (λ (s : Size). IsTrue (is_size s)) c.size-size.ensures.value c.size-size.ensures.within)

pub loop-y-preserved : goal.loop-y-preserved
loop-y-preserved g c =
    let high : c.h-h.result ≡ c.args.picture.now.size.h = c.h-h.ensures.value ∙ ap (λ (s : Size). s.h) c.size-size.ensures.value in
    let wide : c.w-w.result ≡ c.args.picture.now.size.w = c.w-w.ensures.value ∙ ap (λ (s : Size). s.w) c.size-size.ensures.value in
    let room : length c.loop-y.bytes ≡ 3 * (c.args.picture.now.size.w * c.args.rows) = omega arith in
    let long : length c.read_strip.new.bytes ≡ 3 * (c.args.picture.now.size.w * c.min-n.result) =
    strip_long c.w-w.result c.args.picture.now.size.w c.min-n.result c.args.rows c.loop-y.bytes c.read_strip.new.bytes room wide (omega arith) c.read_strip.auto.bytes in
    rows_more c.args.picture.now c.loop-y.picture c.read_strip.new.picture c.loop-y.y c.min-n.result c.read_strip.new.bytes
    (g.S.Source.left c.args.source.now) (g.S.Source.left c.loop-y.source) (g.S.Source.left c.read_strip.new.source) _ _ (g.S.Source.faults c.read_strip.new.source)
    c.loop-y.invariant (omega arith) long c.in_ok-read_strip.ensures.size c.in_ok-read_strip.ensures.painted c.in_ok-read_strip.ensures.shows c.in_ok-read_strip.ensures.bytes
    c.in_ok-read_strip.ensures.cause

pub returns-in_err-read_strip-clause-bytes : goal.returns-in_err-read_strip-clause-bytes
returns-in_err-read_strip-clause-bytes g c =
    let high : c.h-h.result ≡ c.args.picture.now.size.h = c.h-h.ensures.value ∙ ap (λ (s : Size). s.h) c.size-size.ensures.value in
    let wide : c.w-w.result ≡ c.args.picture.now.size.w = c.w-w.ensures.value ∙ ap (λ (s : Size). s.w) c.size-size.ensures.value in
    let room : length c.loop-y.bytes ≡ 3 * (c.args.picture.now.size.w * c.args.rows) = omega arith in
    let long : length c.read_strip.new.bytes ≡ 3 * (c.args.picture.now.size.w * c.min-n.result) =
    strip_long c.w-w.result c.args.picture.now.size.w c.min-n.result c.args.rows c.loop-y.bytes c.read_strip.new.bytes room wide (omega arith) c.read_strip.auto.bytes in
    pixels_at_err c.args.picture.now.size (g.S.Source.left c.args.source.now) (g.S.Source.left c.read_strip.new.source) c.read_strip.new.picture
    c.in_err-read_strip.field-0.0 c.from_residual.result c.from_residual.ensures.1
    (rows_fail c.args.picture.now c.loop-y.picture c.loop-y.y (g.S.Source.left c.args.source.now) (g.S.Source.left c.loop-y.source) _ _ c.loop-y.invariant
    c.read_strip.new.bytes c.min-n.result (g.S.Source.left c.read_strip.new.source) c.in_err-read_strip.field-0.0 (omega arith) long c.in_err-read_strip.ensures.bytes)
