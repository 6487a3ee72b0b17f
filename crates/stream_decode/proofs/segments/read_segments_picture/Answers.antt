use Rattle.std.proofs.Common.{◌≡◌, refl, sym, ◌∙◌, ap, subst, ℕ, ◌+◌, ◌/◌, ◌<◌, List, [], Some, None, arith}
use Rattle.std.specs.Bool.{IsTrue}
use Rattle.h265_model.specs.Settings.{is_size}
use Rattle.h265_model.specs.Plain.{Size, ctus}
use Rattle.h265_model.specs.Stream.{nal_header}
use Rattle.annexb.specs.Walks.{first_header}
use Rattle.stream_decode.specs.Steps.{last_of}
use Rattle.stream_decode.specs.Rows.{ReadsRow}
use Rattle.stream_decode.proofs.SegmentPictures.{none_begun, begun_fails, begun_more, picture_kept, other_header, differ, agree, next_taken, some_ctus}
use Rattle.stream_decode.proofs.segments.read_segments_picture.Goals as goal

pub loop-row-init : goal.loop-row-init
loop-row-init c =
    let sizes : c.size-size.result ≡ c.args.canvas.now.last.size = c.size-size.ensures.value ∙ ap (λ p. p.size) c.last.ensures in
    let some = some_ctus c.args.canvas.now.last.size (subst (λ (s : Size). IsTrue (is_size s)) sizes c.size-size.ensures.within) in
    record {
      grid = c.in_ok-grid.ensures.size ∙ sizes;
      motion = c.clear.ensures.size ∙ c.requires.motion;
      last = c.begin.ensures.last;
      low = omega arith;
      first = λ e. c.requires.header;
      begun = none_begun c.args.canvas.now.last.size (last_of c.args.order c.args.canvas.now.last) c.args.idr c.in_ok-grid.grid c.clear.new.self c.begin.new.self c.args.cursor.now some.1 c.in_ok-grid.ensures.empty c.clear.ensures.empty c.begin.ensures.empty;
    }

pub returns-then-ne-clause-read : goal.returns-then-ne-clause-read
returns-then-ne-clause-read c =
    let sizes : c.size-size.result ≡ c.args.canvas.now.last.size = c.size-size.ensures.value ∙ ap (λ p. p.size) c.last.ensures in
    let down : (c.h.result + 31) / 32 ≡ ctus c.args.canvas.now.last.size.h = ap (λ h. (h + 31) / 32) (c.h.ensures.value ∙ ap (λ (s : Size). s.h) sizes) in
    let less : c.loop-row.row < ctus c.args.canvas.now.last.size.h = subst (λ (n : ℕ). c.loop-row.row < n) down c.loop-row-test.true in
    let apart = differ c.header.result c.header-header.result c.if-ne.ensures in
    let is = c.loop-row.invariant.begun in (
      other_header c.args.canvas.now.last.size (last_of c.args.order c.args.canvas.now.last) c.args.idr c.loop-row.begun.poc c.loop-row.row is.units is.above c.args.cursor.now c.loop-row.cursor is.rests less c.loop-row.invariant.first
          (λ e. apart (c.header.ensures ∙ (e ∙ (sym c.requires.header ∙ sym c.header-header.ensures))))
          ∙ ap (λ (n : ℕ). record { pictures = []; stop = Some n }) (sym c.number-at.ensures),
      c.loop-row.invariant.last,
    )

pub returns-in-None-clause-read : goal.returns-in-None-clause-read
returns-in-None-clause-read c =
    let sizes : c.size-size.result ≡ c.args.canvas.now.last.size = c.size-size.ensures.value ∙ ap (λ p. p.size) c.last.ensures in
    let down : (c.h.result + 31) / 32 ≡ ctus c.args.canvas.now.last.size.h = ap (λ h. (h + 31) / 32) (c.h.ensures.value ∙ ap (λ (s : Size). s.h) sizes) in
    let less : c.loop-row.row < ctus c.args.canvas.now.last.size.h = subst (λ (n : ℕ). c.loop-row.row < n) down c.loop-row-test.true in
    let header : first_header c.loop-row.cursor.list ≡ Some (nal_header c.args.idr) = sym c.header.ensures ∙ (agree c.header.result c.header-header.result c.if-ne.ensures ∙ (c.header-header.ensures ∙ c.requires.header)) in
    let taken = next_taken c.in_ok-next.field-0 c.loop-row.cursor c.next.new.self c.next.new.rbsp.items (nal_header c.args.idr) header c.in_ok-next.ensures.taken in
    let reads : ReadsRow None c.args.canvas.now.last.size c.args.idr (last_of c.args.order c.args.canvas.now.last) c.loop-row.row c.loop-row.begun c.loop-row.grid c.loop-row.motion c.loop-row.canvas c.read_row.new.grid c.read_row.new.motion c.read_row.new.canvas c.next.new.rbsp.items =
    subst (λ (l : List ℕ). ReadsRow None c.args.canvas.now.last.size c.args.idr (last_of c.args.order c.args.canvas.now.last) c.loop-row.row c.loop-row.begun c.loop-row.grid c.loop-row.motion c.loop-row.canvas c.read_row.new.grid c.read_row.new.motion c.read_row.new.canvas l) c.deref.ensures.value
    (subst (λ (s : Size). ReadsRow None s c.args.idr (last_of c.args.order c.args.canvas.now.last) c.loop-row.row c.loop-row.begun c.loop-row.grid c.loop-row.motion c.loop-row.canvas c.read_row.new.grid c.read_row.new.motion c.read_row.new.canvas c.deref.result.now) sizes (c.in-None.ensures.read c.args.canvas.now.last)) in (
      begun_fails c.args.canvas.now.last.size (last_of c.args.order c.args.canvas.now.last) c.args.idr c.loop-row.row c.loop-row.begun.poc c.loop-row.begun.handed c.loop-row.grid c.loop-row.motion c.loop-row.canvas c.args.cursor.now c.loop-row.cursor c.next.new.self
          (record { header = nal_header c.args.idr; rbsp = c.next.new.rbsp.items }) c.loop-row.invariant.begun less taken.0 refl reads
          ∙ ap (λ (n : ℕ). record { pictures = []; stop = Some n }) (sym c.number-at.ensures),
      c.read_row.ensures.last ∙ c.loop-row.invariant.last,
    )

pub loop-row-preserved : goal.loop-row-preserved
loop-row-preserved c =
    let sizes : c.size-size.result ≡ c.args.canvas.now.last.size = c.size-size.ensures.value ∙ ap (λ p. p.size) c.last.ensures in
    let down : (c.h.result + 31) / 32 ≡ ctus c.args.canvas.now.last.size.h = ap (λ h. (h + 31) / 32) (c.h.ensures.value ∙ ap (λ (s : Size). s.h) sizes) in
    let less : c.loop-row.row < ctus c.args.canvas.now.last.size.h = subst (λ (n : ℕ). c.loop-row.row < n) down c.loop-row-test.true in
    let header : first_header c.loop-row.cursor.list ≡ Some (nal_header c.args.idr) = sym c.header.ensures ∙ (agree c.header.result c.header-header.result c.if-ne.ensures ∙ (c.header-header.ensures ∙ c.requires.header)) in
    let taken = next_taken c.in_ok-next.field-0 c.loop-row.cursor c.next.new.self c.next.new.rbsp.items (nal_header c.args.idr) header c.in_ok-next.ensures.taken in
    let reads : ReadsRow (Some c.in-Some.next) c.args.canvas.now.last.size c.args.idr (last_of c.args.order c.args.canvas.now.last) c.loop-row.row c.loop-row.begun c.loop-row.grid c.loop-row.motion c.loop-row.canvas c.read_row.new.grid c.read_row.new.motion c.read_row.new.canvas c.next.new.rbsp.items =
    subst (λ (l : List ℕ). ReadsRow (Some c.in-Some.next) c.args.canvas.now.last.size c.args.idr (last_of c.args.order c.args.canvas.now.last) c.loop-row.row c.loop-row.begun c.loop-row.grid c.loop-row.motion c.loop-row.canvas c.read_row.new.grid c.read_row.new.motion c.read_row.new.canvas l) c.deref.ensures.value
    (subst (λ (s : Size). ReadsRow (Some c.in-Some.next) s c.args.idr (last_of c.args.order c.args.canvas.now.last) c.loop-row.row c.loop-row.begun c.loop-row.grid c.loop-row.motion c.loop-row.canvas c.read_row.new.grid c.read_row.new.motion c.read_row.new.canvas c.deref.result.now) sizes (c.in-Some.ensures.read c.args.canvas.now.last)) in
    record {
      grid = c.read_row.ensures.grid ∙ sizes;
      motion = c.read_row.ensures.motion ∙ sizes;
      last = c.read_row.ensures.last ∙ c.loop-row.invariant.last;
      low = c.in-Some.ensures.low;
      first = λ e. absurd (omega (arith, e));
      begun = begun_more c.args.canvas.now.last.size (last_of c.args.order c.args.canvas.now.last) c.args.idr c.loop-row.row c.loop-row.begun.poc c.in-Some.next.poc c.loop-row.begun.handed c.in-Some.next.handed c.loop-row.grid c.loop-row.motion c.loop-row.canvas
          c.read_row.new.grid c.read_row.new.motion c.read_row.new.canvas c.args.cursor.now c.loop-row.cursor c.next.new.self (record { header = nal_header c.args.idr; rbsp = c.next.new.rbsp.items }) c.loop-row.invariant.begun less taken.0 taken.1 refl reads;
    }

pub returns-clause-read : goal.returns-clause-read
returns-clause-read c =
    let sizes : c.size-size.result ≡ c.args.canvas.now.last.size = c.size-size.ensures.value ∙ ap (λ p. p.size) c.last.ensures in
    let some = some_ctus c.args.canvas.now.last.size (subst (λ (s : Size). IsTrue (is_size s)) sizes c.size-size.ensures.within) in
    let down : (c.h.result + 31) / 32 ≡ ctus c.args.canvas.now.last.size.h = ap (λ h. (h + 31) / 32) (c.h.ensures.value ∙ ap (λ (s : Size). s.h) sizes) in
    let full : c.loop-row.row ≡ ctus c.args.canvas.now.last.size.h = (let e : c.loop-row.row ≡ (c.h.result + 31) / 32 = omega (arith, c.loop-row-test.false, c.loop-row.auto.row-end) in e) ∙ down in (
      picture_kept c.args.canvas.now.last.size c.args.idr c.args.order c.args.canvas.now.last c.loop-row.row c.loop-row.begun.poc c.loop-row.begun.handed c.loop-row.grid c.loop-row.motion c.loop-row.canvas c.args.cursor.now c.loop-row.cursor c.keep.new.self.last
          c.loop-row.invariant.begun full some.0 some.1 c.loop-row.invariant.last refl c.keep.ensures.rebuilt c.keep.ensures.still,
      c.keep.ensures.drawn ∙ c.loop-row.invariant.last,
    )
