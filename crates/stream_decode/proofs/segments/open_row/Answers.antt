use Rattle.std.proofs.Common.{◌≡◌, sym, ap, ◌+◌, ◌/◌, ◌∙◌, arith}
use Rattle.stream_decode.specs.Steps.{last_of}
use Rattle.stream_decode.proofs.SegmentPictures.{header_fails, first_refused, first_opened, later_opened}
use Rattle.stream_decode.proofs.segments.open_row.Goals as goal

pub returns-in_default-clause-opened : goal.returns-in_default-clause-opened
returns-in_default-clause-opened c = λ planes units above.
    header_fails c.args.page.now.size (last_of c.args.page.now.order planes) c.args.page.now.idr c.args.poc c.args.row units above c.args.rbsp.now ((c.w.result + 31) / 32) ((c.h.result + 31) / 32) c.in_default.field-0.field
    (ap (λ w. (w + 31) / 32) c.w.ensures.value) (ap (λ h. (h + 31) / 32) c.h.ensures.value) c.in_default.ensures.found

pub returns-then-row-gt0-clause-opened : goal.returns-then-row-gt0-clause-opened
returns-then-row-gt0-clause-opened c = λ planes.
    later_opened c.args.page.now.size (last_of c.args.page.now.order planes) c.args.page.now.idr c.args.poc c.args.row c.args.rbsp.now ((c.w.result + 31) / 32) ((c.h.result + 31) / 32) c.in-Ok.found c.in-Ok.start
    (ap (λ w. (w + 31) / 32) c.w.ensures.value) (ap (λ h. (h + 31) / 32) c.h.ensures.value) c.in-Ok.ensures.found c.if-row-gt0.true

pub returns-then-not-is_next-clause-opened : goal.returns-then-not-is_next-clause-opened
returns-then-not-is_next-clause-opened c = λ planes units above.
    let zero : c.args.row ≡ 0 = omega (arith, c.if-row-gt0.false) in
    first_refused c.args.page.now.size (last_of c.args.page.now.order planes) c.args.page.now.idr c.args.poc c.args.row units above c.args.rbsp.now ((c.w.result + 31) / 32) ((c.h.result + 31) / 32) c.in-Ok.found c.in-Ok.start
    (ap (λ w. (w + 31) / 32) c.w.ensures.value) (ap (λ h. (h + 31) / 32) c.h.ensures.value) c.in-Ok.ensures.found zero (sym (c.is_next.ensures planes) ∙ c.if-not-is_next.true)

pub returns-clause-opened : goal.returns-clause-opened
returns-clause-opened c = λ planes.
    let zero : c.args.row ≡ 0 = omega (arith, c.if-row-gt0.false) in
    first_opened c.args.page.now.size (last_of c.args.page.now.order planes) c.args.page.now.idr c.args.poc c.args.row c.args.rbsp.now ((c.w.result + 31) / 32) ((c.h.result + 31) / 32) c.in-Ok.found c.in-Ok.start
    (ap (λ w. (w + 31) / 32) c.w.ensures.value) (ap (λ h. (h + 31) / 32) c.h.ensures.value) c.in-Ok.ensures.found zero (sym (c.is_next.ensures planes) ∙ c.if-not-is_next.false)
