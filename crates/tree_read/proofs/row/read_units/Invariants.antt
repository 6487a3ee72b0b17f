use Rattle.std.proofs.Common.{◌≡◌, ℕ, Bool, List}
use Rattle.std.specs.Prelude.{◌==◌, ◌&&◌}
use Rattle.h265_model.specs.declared.Place.TheVariants.{Terminate}
use Rattle.h265_model.specs.Motion.{Moving}
use Rattle.cabac_dec.specs.State.{IsOpenAfter}
use Rattle.unit_read.specs.Units.{AreKept}
use Rattle.tree_read.specs.Rows.{AreEnds}
use Rattle.tree_read.proofs.RowReads.{IsReadTo}
use Rattle.tree_read.proofs.row.read_units.Given as goal

abbrev pub invariant-loop-i : goal.invariant-loop-i
invariant-loop-i g l = record {
  after : IsOpenAfter Terminate (l.last && (l.i == l.across)) l.decoder;
  grid : l.grid.size ≡ l.size;
  motion : l.motion.size ≡ l.size;
  last : g.S.LeafSink.last l.sink ≡ g.S.LeafSink.last l.initial.sink;
  read : (ends : ℕ → Bool) (before : List Moving) → AreEnds l.size l.row l.last ends → AreKept l.initial.grid l.initial.motion before
      → IsReadTo l.kind l.size ends l.row l.i before l.initial.decoder l.decoder (g.S.LeafSink.stands_for l.initial.sink) (g.S.LeafSink.stands_for l.sink) l.grid l.motion l.handed;
}
