use Rattle.std.proofs.Common.{◌≡◌, refl, ◌∙◌, ap, subst, ℕ, ◌+◌, ◌-◌, ◌/◌, ◌<◌, ◌≤◌, length, take, drop, length-drop, Some, None, arith}
use Rattle.std.proofs.lemmas.List.{take_all}
use Rattle.std.specs.Prelude.{slice_index_or}
use Rattle.h265_model.specs.Plain.{ctus}
use Rattle.slice_read.proofs.SliceReads.{Step, none_read, not_cut, row_fails, row_more, last_fails, all_read}
use Rattle.slice_read.proofs.slice.read_slice.Goals as goal

pub loop-row-init : goal.loop-row-init
loop-row-init g c = record {
  grid = c.requires.grid;
  motion = c.requires.motion;
  last = refl;
  read = λ kept. none_read c.args.kind c.args.size c.args.offsets.now c.args.bytes.now (g.S.LeafSink.stands_for c.args.sink.now) c.args.grid.now c.args.motion.now None kept;
}

pub returns-in_err-at-clause-read : goal.returns-in_err-at-clause-read
returns-in_err-at-clause-read g c = λ kept.
    let down : (c.h.result + 31) / 32 ≡ ctus c.args.size.h = ap (λ (h : ℕ). (h + 31) / 32) c.h.ensures.value in
    let less : c.loop-row.row < length c.args.offsets.now = omega (arith, down, c.requires.many, c.loop-row-test.true) in
    rw c.from_residual.ensures (not_cut c.args.kind c.args.size c.args.offsets.now c.args.bytes.now c.loop-row.row (slice_index_or c.args.offsets.now c.loop-row.row 0) (g.S.LeafSink.stands_for c.args.sink.now) (g.S.LeafSink.stands_for c.loop-row.sink)
    c.loop-row.grid c.loop-row.motion c.loop-row.handed c.loop-row.rest.now less refl (c.loop-row.invariant.read kept) c.in_err-at.ensures)

pub returns-in_err-handed-clause-read : goal.returns-in_err-handed-clause-read
returns-in_err-handed-clause-read g c = λ kept.
    let down : (c.h.result + 31) / 32 ≡ ctus c.args.size.h = ap (λ (h : ℕ). (h + 31) / 32) c.h.ensures.value in
    let less : c.loop-row.row < length c.args.offsets.now = omega (arith, down, c.requires.many, c.loop-row-test.true) in
    rw c.from_residual-in_err-handed.ensures (row_fails c.args.kind c.args.size c.args.offsets.now c.args.bytes.now c.loop-row.row (slice_index_or c.args.offsets.now c.loop-row.row 0) c.in_ok-at.at
    (g.S.LeafSink.stands_for c.args.sink.now) (g.S.LeafSink.stands_for c.loop-row.sink) (g.S.LeafSink.stands_for c.read_slice_row.new.sink) c.loop-row.grid c.loop-row.motion c.read_slice_row.new.grid c.read_slice_row.new.motion c.loop-row.handed c.loop-row.rest.now
    less refl (c.loop-row.invariant.read kept) c.in_ok-at.ensures.1 c.in_err-handed.ensures.read)

pub loop-row-preserved : goal.loop-row-preserved
loop-row-preserved g c = record {
  grid = c.read_slice_row.ensures.grid;
  motion = c.read_slice_row.ensures.motion;
  last = c.read_slice_row.ensures.last ∙ c.loop-row.invariant.last;
  read = λ kept.
      let down : (c.h.result + 31) / 32 ≡ ctus c.args.size.h = ap (λ (h : ℕ). (h + 31) / 32) c.h.ensures.value in
      let less : c.loop-row.row < length c.args.offsets.now = omega (arith, down, c.requires.many, c.loop-row-test.true) in
      let long : length (drop c.in_ok-at.at c.loop-row.rest.now) ≤ length c.loop-row.rest.now - c.in_ok-at.at = omega (arith, length-drop c.in_ok-at.at c.loop-row.rest.now) in
      let all : take (length c.loop-row.rest.now - c.in_ok-at.at) (drop c.in_ok-at.at c.loop-row.rest.now) ≡ drop c.in_ok-at.at c.loop-row.rest.now = take_all (length c.loop-row.rest.now - c.in_ok-at.at) (drop c.in_ok-at.at c.loop-row.rest.now) long in
      rw all (row_more c.args.kind c.args.size c.args.offsets.now c.args.bytes.now c.loop-row.row (slice_index_or c.args.offsets.now c.loop-row.row 0) c.in_ok-at.at
      (g.S.LeafSink.stands_for c.args.sink.now) (g.S.LeafSink.stands_for c.loop-row.sink) (g.S.LeafSink.stands_for c.read_slice_row.new.sink) c.loop-row.grid c.loop-row.motion c.read_slice_row.new.grid c.read_slice_row.new.motion c.loop-row.handed c.in_ok-handed.handed c.loop-row.rest.now
      less refl (c.loop-row.invariant.read kept) c.in_ok-at.ensures.1 c.in_ok-handed.ensures.read);
}

pub returns-in_err-read_slice_row-clause-read : goal.returns-in_err-read_slice_row-clause-read
returns-in_err-read_slice_row-clause-read g c = λ kept.
    let down : (c.h.result + 31) / 32 ≡ ctus c.args.size.h = ap (λ (h : ℕ). (h + 31) / 32) c.h.ensures.value in
    let full : c.loop-row.row ≡ length c.args.offsets.now = omega (arith, down, c.requires.many, c.loop-row-test.false, c.loop-row.auto.row-end) in
    let last : (c.h.result + 31) / 32 - 1 ≡ c.loop-row.row = omega (arith, c.loop-row-test.false, c.loop-row.auto.row-end) in
    rw c.from_residual-in_err-read_slice_row.ensures (last_fails c.args.kind c.args.size c.args.offsets.now c.args.bytes.now c.loop-row.row
    (g.S.LeafSink.stands_for c.args.sink.now) (g.S.LeafSink.stands_for c.loop-row.sink) (g.S.LeafSink.stands_for c.read_slice_row-2.new.sink) c.loop-row.grid c.loop-row.motion c.read_slice_row-2.new.grid c.read_slice_row-2.new.motion c.loop-row.handed c.loop-row.rest.now
    full (c.loop-row.invariant.read kept)
    (subst (λ (n : ℕ). Step c.args.kind c.args.size n c.loop-row.handed None c.loop-row.rest.now (g.S.LeafSink.stands_for c.loop-row.sink) (g.S.LeafSink.stands_for c.read_slice_row-2.new.sink) c.loop-row.grid c.loop-row.motion c.read_slice_row-2.new.grid c.read_slice_row-2.new.motion) last c.in_err-read_slice_row.ensures.read))

pub returns-clause-read : goal.returns-clause-read
returns-clause-read g c = λ kept.
    let down : (c.h.result + 31) / 32 ≡ ctus c.args.size.h = ap (λ (h : ℕ). (h + 31) / 32) c.h.ensures.value in
    let full : c.loop-row.row ≡ length c.args.offsets.now = omega (arith, down, c.requires.many, c.loop-row-test.false, c.loop-row.auto.row-end) in
    let last : (c.h.result + 31) / 32 - 1 ≡ c.loop-row.row = omega (arith, c.loop-row-test.false, c.loop-row.auto.row-end) in
    all_read c.args.kind c.args.size c.args.offsets.now c.args.bytes.now c.loop-row.row
    (g.S.LeafSink.stands_for c.args.sink.now) (g.S.LeafSink.stands_for c.loop-row.sink) (g.S.LeafSink.stands_for c.read_slice_row-2.new.sink) c.loop-row.grid c.loop-row.motion c.read_slice_row-2.new.grid c.read_slice_row-2.new.motion c.loop-row.handed c.in_ok-read_slice_row.field-0 c.loop-row.rest.now
    full (c.loop-row.invariant.read kept)
    (subst (λ (n : ℕ). Step c.args.kind c.args.size n c.loop-row.handed (Some c.in_ok-read_slice_row.field-0) c.loop-row.rest.now (g.S.LeafSink.stands_for c.loop-row.sink) (g.S.LeafSink.stands_for c.read_slice_row-2.new.sink) c.loop-row.grid c.loop-row.motion c.read_slice_row-2.new.grid c.read_slice_row-2.new.motion) last c.in_ok-read_slice_row.ensures.read)
