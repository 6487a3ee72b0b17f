use Rattle.std.proofs.Common.{◌≡◌, ◌≤◌, ◌*◌, map}
use Rattle.h265_model.specs.Plain.{ctus, below}
use Rattle.row_sequence.specs.Sequence.{handed_of, code_of}
use Rattle.row_sequence.proofs.rows.rows_in_order.Given as goal

abbrev pub invariant-loop-row : goal.invariant-loop-row
invariant-loop-row g l = record {
  size : g.W.UnitWriter.size l.writer ≡ g.W.UnitWriter.size l.initial.writer;
  items : g.W.UnitWriter.items l.writer ≡ g.W.UnitWriter.items l.initial.writer;
  next : g.W.UnitWriter.is_at l.writer (l.row * ctus l.fn.size.w);
  handed : 2 ≤ ctus l.fn.size.w → l.handed ≡ handed_of l.fn.kind l.fn.size (g.W.UnitWriter.items l.initial.writer) l.row;
  rows : map (λ row. row.items) l.rows.items ≡ map (code_of l.fn.ending l.fn.kind l.fn.size (g.W.UnitWriter.items l.initial.writer)) (below l.row);
}
