use Rattle.std.proofs.Common.{◌≡◌, ◌+◌, ◌*◌, ℕ, List}
use Rattle.h265_model.specs.Plain.{ctus}
use Rattle.cabac_bytes.specs.State.{stands_for, phase_of}
use Rattle.row_sequence.specs.Sequence.{ends_of, flagged, IsAfter}
use Rattle.row_sequence.proofs.rows.write_units.Given as goal

abbrev pub invariant-loop-unit : goal.invariant-loop-unit
invariant-loop-unit g l = record {
  size : g.W.UnitWriter.size l.writer ≡ g.W.UnitWriter.size l.initial.writer;
  items : g.W.UnitWriter.items l.writer ≡ g.W.UnitWriter.items l.initial.writer;
  next : g.W.UnitWriter.is_at l.writer (l.fn.row * ctus l.fn.size.w + l.unit);
  phase : IsAfter l.fn.ending l.fn.size l.fn.row l.unit (phase_of l.coder);
  written : (first : List ℕ) → stands_for l.initial.coder (flagged (ends_of l.fn.ending l.fn.size) l.fn.size (g.W.UnitWriter.items l.initial.writer) l.fn.row l.fn.from) first
      → stands_for l.coder (flagged (ends_of l.fn.ending l.fn.size) l.fn.size (g.W.UnitWriter.items l.initial.writer) l.fn.row l.unit) first;
}
