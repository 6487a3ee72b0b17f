use Rattle.std.proofs.Common.{◌≡◌, []}
use Rattle.unit_read.specs.Units.{AreKept}
use Rattle.slice_read.proofs.SliceReads.{IsReadTo}
use Rattle.slice_read.proofs.slice.read_slice.Given as goal

abbrev pub invariant-loop-row : goal.invariant-loop-row
invariant-loop-row g l = record {
  grid : l.grid.size ≡ l.size;
  motion : l.motion.size ≡ l.size;
  last : g.S.LeafSink.last l.sink ≡ g.S.LeafSink.last l.initial.sink;
  read : AreKept l.initial.grid l.initial.motion [] → IsReadTo l.kind l.size l.offsets l.fn.bytes l.row (g.S.LeafSink.stands_for l.initial.sink) (g.S.LeafSink.stands_for l.sink) l.grid l.motion l.handed l.rest;
}
