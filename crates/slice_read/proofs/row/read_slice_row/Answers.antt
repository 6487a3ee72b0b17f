use Rattle.std.proofs.Common.{sym, ◌*◌}
use Rattle.h265_model.specs.Contexts.{row_start}
use Rattle.h265_model.specs.Plain.{ctus}
use Rattle.h265_model.specs.Slice.{slice_row_read}
use Rattle.unit_read.specs.Units.{AreTaken}
use Rattle.slice_read.proofs.RowBytes.{no_start, no_row, not_done, row_done, slice_row}
use Rattle.slice_read.proofs.row.read_slice_row.Goals as goal

pub returns-in_err-decoder-clause-read : goal.returns-in_err-decoder-clause-read
returns-in_err-decoder-clause-read g c = λ before above handed kept.
    rw c.from_residual.ensures (no_start (slice_row_read c.args.kind c.args.size c.args.row before) c.contexts_at-contexts.result (row_start c.args.kind (ctus c.args.size.w) c.args.row above) c.args.bytes.now
    (c.contexts_at-contexts.ensures above handed) (sym c.in_err-decoder.ensures.value))

pub returns-in_err-handed_on-clause-read : goal.returns-in_err-handed_on-clause-read
returns-in_err-handed_on-clause-read g c = λ before above handed kept.
    rw c.from_residual-in_err-handed_on.ensures (no_row (slice_row_read c.args.kind c.args.size c.args.row before) c.contexts_at-contexts.result (row_start c.args.kind (ctus c.args.size.w) c.args.row above) c.args.bytes.now c.in_ok-decoder.decoder
    (c.contexts_at-contexts.ensures above handed) (sym c.in_ok-decoder.ensures.value) (c.in_err-handed_on.ensures.read before kept))

pub returns-then-not-is_at_end-clause-read : goal.returns-then-not-is_at_end-clause-read
returns-then-not-is_at_end-clause-read g c = λ before above handed kept.
    not_done (slice_row_read c.args.kind c.args.size c.args.row before) c.contexts_at-contexts.result (row_start c.args.kind (ctus c.args.size.w) c.args.row above) c.args.bytes.now c.in_ok-decoder.decoder c.read_row.new.decoder
    c.in_ok-handed_on.handed_on c.is_at_end.result (AreTaken (g.S.LeafSink.stands_for c.args.sink.now) (g.S.LeafSink.stands_for c.read_row.new.sink) c.args.size 0 (c.args.row * 32) c.read_row.new.grid c.read_row.new.motion before)
    (c.contexts_at-contexts.ensures above handed) (sym c.in_ok-decoder.ensures.value) (c.in_ok-handed_on.ensures.read before kept) c.is_at_end.ensures c.if-not-is_at_end.true

pub returns-clause-read : goal.returns-clause-read
returns-clause-read g c = λ before above handed kept.
    row_done c.args.kind c.args.size c.args.row (slice_row_read c.args.kind c.args.size c.args.row before) c.contexts_at-contexts.result (row_start c.args.kind (ctus c.args.size.w) c.args.row above) c.args.bytes.now before c.in_ok-decoder.decoder
    c.read_row.new.decoder c.in_ok-handed_on.handed_on c.is_at_end.result (g.S.LeafSink.stands_for c.args.sink.now) (g.S.LeafSink.stands_for c.read_row.new.sink) c.read_row.new.grid c.read_row.new.motion
    (slice_row c.args.kind c.args.size c.args.row before kept.lawful) (c.contexts_at-contexts.ensures above handed) (sym c.in_ok-decoder.ensures.value) (c.in_ok-handed_on.ensures.read before kept) c.is_at_end.ensures c.if-not-is_at_end.false
