use Rattle.std.proofs.Common.{◌≡◌, sym, ◌∙◌, ap, ℕ, ◌+◌, ◌*◌, ◌/◌, Bool, Some}
use Rattle.std.specs.Prelude.{◌==◌}
use Rattle.std.proofs.lemmas.Bool.{eq-eqb, ne_eqb}
use Rattle.h265_model.specs.Plain.{ctus}
use Rattle.h265_model.specs.Tree.{is_last}
use Rattle.unit_read.specs.Units.{AreTaken}
use Rattle.tree_read.proofs.RowReads.{slice_ends, slice_none, slice_last, slice_ended, slice_goes_on, slice_done}
use Rattle.tree_read.proofs.row.read_row.Goals as goal

pub returns-in_err-handed-clause-read : goal.returns-in_err-handed-clause-read
returns-in_err-handed-clause-read g c = λ before kept.
    let down : (c.args.row + 1 == (c.h.result + 31) / 32) ≡ (c.args.row + 1 == ctus c.args.size.h) = ap (λ (h : ℕ). c.args.row + 1 == (h + 31) / 32) c.h.ensures.value in
    rw c.from_residual.ensures (slice_none c.args.kind c.args.size c.args.row before c.args.decoder.now
    (c.in_err-handed.ensures.read (is_last c.args.size) before (slice_ends c.args.size c.args.row (c.args.row + 1 == (c.h.result + 31) / 32) c.requires.row down) kept))

pub returns-then-is_last-clause-read : goal.returns-then-is_last-clause-read
returns-then-is_last-clause-read g c = λ before kept.
    let down : (c.args.row + 1 == (c.h.result + 31) / 32) ≡ (c.args.row + 1 == ctus c.args.size.h) = ap (λ (h : ℕ). c.args.row + 1 == (h + 31) / 32) c.h.ensures.value in
    slice_last c.args.kind c.args.size c.args.row before c.args.decoder.now c.read_units.new.decoder c.in_ok-handed.handed
    (AreTaken (g.S.LeafSink.stands_for c.args.sink.now) (g.S.LeafSink.stands_for c.read_units.new.sink) c.args.size 0 (c.args.row * 32) c.read_units.new.grid c.read_units.new.motion before)
    (sym down ∙ eq-eqb (c.args.row + 1) ((c.h.result + 31) / 32) c.if-is_last.true)
    (c.in_ok-handed.ensures.read (is_last c.args.size) before (slice_ends c.args.size c.args.row (c.args.row + 1 == (c.h.result + 31) / 32) c.requires.row down) kept)

pub returns-in_err-bin-clause-read : goal.returns-in_err-bin-clause-read
returns-in_err-bin-clause-read g c = λ before kept.
    let down : (c.args.row + 1 == (c.h.result + 31) / 32) ≡ (c.args.row + 1 == ctus c.args.size.h) = ap (λ (h : ℕ). c.args.row + 1 == (h + 31) / 32) c.h.ensures.value in
    rw c.from_residual-in_err-bin.ensures (slice_ended c.args.kind c.args.size c.args.row before c.args.decoder.now c.read_units.new.decoder c.in_ok-handed.handed
    (AreTaken (g.S.LeafSink.stands_for c.args.sink.now) (g.S.LeafSink.stands_for c.read_units.new.sink) c.args.size 0 (c.args.row * 32) c.read_units.new.grid c.read_units.new.motion before)
    (sym down ∙ ne_eqb (c.args.row + 1) ((c.h.result + 31) / 32) c.if-is_last.false)
    (c.in_ok-handed.ensures.read (is_last c.args.size) before (slice_ends c.args.size c.args.row (c.args.row + 1 == (c.h.result + 31) / 32) c.requires.row down) kept) c.in_err-bin.ensures.value)

pub returns-then-not-branch-clause-read : goal.returns-then-not-branch-clause-read
returns-then-not-branch-clause-read g c = λ before kept.
    let down : (c.args.row + 1 == (c.h.result + 31) / 32) ≡ (c.args.row + 1 == ctus c.args.size.h) = ap (λ (h : ℕ). c.args.row + 1 == (h + 31) / 32) c.h.ensures.value in
    slice_goes_on c.args.kind c.args.size c.args.row before c.args.decoder.now c.read_units.new.decoder c.bin.new.self c.in_ok-handed.handed
    (AreTaken (g.S.LeafSink.stands_for c.args.sink.now) (g.S.LeafSink.stands_for c.read_units.new.sink) c.args.size 0 (c.args.row * 32) c.read_units.new.grid c.read_units.new.motion before)
    (sym down ∙ ne_eqb (c.args.row + 1) ((c.h.result + 31) / 32) c.if-is_last.false)
    (c.in_ok-handed.ensures.read (is_last c.args.size) before (slice_ends c.args.size c.args.row (c.args.row + 1 == (c.h.result + 31) / 32) c.requires.row down) kept)
    (c.in_ok-bin.ensures.value ∙ ap (λ (b : Bool). Some (b, c.bin.new.self)) c.if-not-branch.true)

pub returns-clause-read : goal.returns-clause-read
returns-clause-read g c = λ before kept.
    let down : (c.args.row + 1 == (c.h.result + 31) / 32) ≡ (c.args.row + 1 == ctus c.args.size.h) = ap (λ (h : ℕ). c.args.row + 1 == (h + 31) / 32) c.h.ensures.value in
    slice_done c.args.kind c.args.size c.args.row before c.args.decoder.now c.read_units.new.decoder c.bin.new.self c.in_ok-handed.handed
    (AreTaken (g.S.LeafSink.stands_for c.args.sink.now) (g.S.LeafSink.stands_for c.read_units.new.sink) c.args.size 0 (c.args.row * 32) c.read_units.new.grid c.read_units.new.motion before)
    (sym down ∙ ne_eqb (c.args.row + 1) ((c.h.result + 31) / 32) c.if-is_last.false)
    (c.in_ok-handed.ensures.read (is_last c.args.size) before (slice_ends c.args.size c.args.row (c.args.row + 1 == (c.h.result + 31) / 32) c.requires.row down) kept)
    (c.in_ok-bin.ensures.value ∙ ap (λ (b : Bool). Some (b, c.bin.new.self)) c.if-not-branch.false)
