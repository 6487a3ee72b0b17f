use Rattle.std.proofs.Common.{◌≡◌, refl, sym, ◌∙◌, ap, subst, ℕ, ◌+◌, ◌/◌, ◌<◌, ◌≤◌, true, false, List, length, Err, Some, None, arith}
use Rattle.h265_model.specs.Plain.{Size, ctus, AreBytes}
use Rattle.std.specs.Prelude.{IsTrue}
use Rattle.h265_model.specs.Settings.{is_size}
use Rattle.h265_model.specs.Decode.{is_next}
use Rattle.h265_model.specs.SliceHead.{Head, read_head}
use Rattle.h265_model.specs.Stream.{slice_kind}
use Rattle.px_plane.specs.Planes.{Planes, planes_of}
use Rattle.px_plane.proofs.Shown.{InLimits, in_limits}
use Rattle.cabac_dec.proofs.Parts.{are_bytes}
use Rattle.slice_head.specs.Answers.{IsAnswer}
use Rattle.slice_head.specs.declared.error.HeadError.{HeadError}
use Rattle.stream_decode.specs.Steps.{last_of, between, right_after}
use Rattle.stream_decode.proofs.SlicePictures.{head_fails, other_order, no_slice, head_long, none_kept, read_same, slice_drawn_after}
use Rattle.stream_decode.proofs.picture.read_slice_picture.Goals as goal

pub returns-in-Err-BadHead-clause-read : goal.returns-in-Err-BadHead-clause-read
returns-in-Err-BadHead-clause-read c =
    let size : Size = c.args.canvas.now.last.size in
    let high : c.h.result ≡ size.h = c.h.ensures.value ∙ (ap (λ (s : Size). s.h) c.size-size.ensures.value ∙ ap (λ (p : Planes). p.size.h) c.last.ensures) in
    let rows : (c.h.result + 31) / 32 ≡ ctus size.h = ap (λ (h : ℕ). (h + 31) / 32) high in
    let fails : read_head c.args.rbsp.now c.args.idr ((c.h.result + 31) / 32) ≡ Err c.in-Err-BadHead.field-0-0 =
    subst (λ (e : HeadError). IsAnswer (read_head c.args.rbsp.now c.args.idr ((c.h.result + 31) / 32)) (Err e)) c.in-Err-BadHead.field-0-is c.in-Err-BadHead.ensures.answer in
    (head_fails size c.args.idr (between (last_of c.args.order c.args.canvas.now.last)) c.args.rbsp.now ((c.h.result + 31) / 32) c.in-Err-BadHead.field-0-0 rows fails, refl)

pub returns-then-not-is_next-clause-read : goal.returns-then-not-is_next-clause-read
returns-then-not-is_next-clause-read c =
    let size : Size = c.args.canvas.now.last.size in
    let high : c.h.result ≡ size.h = c.h.ensures.value ∙ (ap (λ (s : Size). s.h) c.size-size.ensures.value ∙ ap (λ (p : Planes). p.size.h) c.last.ensures) in
    let rows : (c.h.result + 31) / 32 ≡ ctus size.h = ap (λ (h : ℕ). (h + 31) / 32) high in
    let order : c.head.inside.poc ≡ c.in-Ok.found.0.poc = ap (λ (h : Head). h.poc) c.head.view_is in
    let other : is_next c.args.idr (last_of c.args.order c.args.canvas.now.last) c.in-Ok.found.0.poc ≡ false =
    ap (λ (n : ℕ). is_next c.args.idr (last_of c.args.order c.args.canvas.now.last) n) (sym order) ∙ (sym (c.is_next.ensures c.args.canvas.now.last) ∙ c.if-not-is_next.true) in
    (other_order size c.args.idr (between (last_of c.args.order c.args.canvas.now.last)) c.args.rbsp.now ((c.h.result + 31) / 32) c.in-Ok.found.0 c.in-Ok.found.1 rows c.in-Ok.ensures.answer other, refl)

pub read_slice-requires-clause-many : goal.read_slice-requires-clause-many
read_slice-requires-clause-many c =
    let limits : InLimits c.size-size.result = in_limits c.size-size.result c.size-size.ensures.within in
    let rows : (c.h.result + 31) / 32 ≡ ctus c.size-size.result.h = ap (λ (h : ℕ). (h + 31) / 32) c.h.ensures.value in
    let some : 0 < (c.h.result + 31) / 32 = let low : 1 ≤ c.size-size.result.h = limits.h_low in omega (arith, rows, low) in
    let bytes : AreBytes c.args.rbsp.now = are_bytes c.args.rbsp.now (λ k l. let h = c.type_inv.rbsp k in omega arith) in
    let long = head_long c.args.rbsp.now c.args.idr ((c.h.result + 31) / 32) c.in-Ok.found.0 c.in-Ok.found.1 bytes some c.in-Ok.ensures.answer in
    let same : c.as_slice.result.now ≡ c.in-Ok.found.0.offsets = c.as_slice.ensures ∙ ap (λ (h : Head). h.offsets) c.head.view_is in
    ap (λ (l : List ℕ). length l + 1) same ∙ (long ∙ rows)

pub returns-in-None-clause-read : goal.returns-in-None-clause-read
returns-in-None-clause-read c =
    let last : Planes = c.args.canvas.now.last in
    let sized : c.size-size.result ≡ last.size = c.size-size.ensures.value ∙ ap (λ (p : Planes). p.size) c.last.ensures in
    let rows : (c.h.result + 31) / 32 ≡ ctus last.size.h = ap (λ (h : ℕ). (h + 31) / 32) (c.h.ensures.value ∙ ap (λ (s : Size). s.h) sized) in
    let same : c.as_slice.result.now ≡ c.in-Ok.found.0.offsets = c.as_slice.ensures ∙ ap (λ (h : Head). h.offsets) c.head.view_is in
    let none = c.in-None.ensures.read (none_kept c.in_ok-grid.grid c.clear.new.self c.in_ok-grid.ensures.empty c.clear.ensures.empty) in
    let read = read_same (slice_kind c.args.idr) c.slice_kind.result last.size c.size-size.result c.in-Ok.found.0.offsets c.as_slice.result.now c.in-Ok.found.1 c.args.rbsp.now None c.slice_kind.ensures sized same none in (
      no_slice last.size c.args.idr (between (last_of c.args.order last)) c.args.rbsp.now ((c.h.result + 31) / 32) c.in-Ok.found.0 c.in-Ok.found.1 rows c.in-Ok.ensures.answer read,
      c.read_slice.ensures.last ∙ c.begin.ensures.last,
    )

pub returns-clause-read : goal.returns-clause-read
returns-clause-read c =
    let last : Planes = c.args.canvas.now.last in
    let sized : c.size-size.result ≡ last.size = c.size-size.ensures.value ∙ ap (λ (p : Planes). p.size) c.last.ensures in
    let limits : InLimits last.size = in_limits last.size (subst (λ (s : Size). IsTrue (is_size s)) sized c.size-size.ensures.within) in
    let rows : (c.h.result + 31) / 32 ≡ ctus last.size.h = ap (λ (h : ℕ). (h + 31) / 32) (c.h.ensures.value ∙ ap (λ (s : Size). s.h) sized) in
    let some : 0 < (c.h.result + 31) / 32 = let low : 1 ≤ last.size.h = limits.h_low in omega (arith, rows, low) in
    let wide : 0 < ctus last.size.w = let low : 1 ≤ last.size.w = limits.w_low in omega arith in
    let bytes : AreBytes c.args.rbsp.now = are_bytes c.args.rbsp.now (λ k l. let h = c.type_inv.rbsp k in omega arith) in
    let long = head_long c.args.rbsp.now c.args.idr ((c.h.result + 31) / 32) c.in-Ok.found.0 c.in-Ok.found.1 bytes some c.in-Ok.ensures.answer in
    let same : c.as_slice.result.now ≡ c.in-Ok.found.0.offsets = c.as_slice.ensures ∙ ap (λ (h : Head). h.offsets) c.head.view_is in
    let order : c.head.inside.poc ≡ c.in-Ok.found.0.poc = ap (λ (h : Head). h.poc) c.head.view_is in
    let next : is_next c.args.idr (last_of c.args.order last) c.in-Ok.found.0.poc ≡ true =
    ap (λ (n : ℕ). is_next c.args.idr (last_of c.args.order last) n) (sym order) ∙ (sym (c.is_next.ensures last) ∙ c.if-not-is_next.false) in
    let taken = c.in-Some.ensures.read (none_kept c.in_ok-grid.grid c.clear.new.self c.in_ok-grid.ensures.empty c.clear.ensures.empty) in
    let read = read_same (slice_kind c.args.idr) c.slice_kind.result last.size c.size-size.result c.in-Ok.found.0.offsets c.as_slice.result.now c.in-Ok.found.1 c.args.rbsp.now (Some taken.0) c.slice_kind.ensures sized same taken.1 in
    let before : c.read_slice.new.sink.last ≡ last = c.read_slice.ensures.last ∙ c.begin.ensures.last in
    let step = slice_drawn_after c.args.idr c.args.order last c.read_slice.new.sink c.keep.new.self c.args.rbsp.now ((c.h.result + 31) / 32) c.in-Ok.found.0 c.in-Ok.found.1 taken.0 before
    rows wide long c.in-Ok.ensures.answer read next (taken.2.taken c.begin.ensures.empty) (record { rebuilt = c.keep.ensures.rebuilt; still = c.keep.ensures.still }) in
    (step ∙ ap (λ (n : ℕ). Some (right_after (record { poc = n; planes = planes_of c.keep.new.self.last }))) (sym order), c.keep.ensures.drawn ∙ before)
