use Rattle.std.proofs.Common.{◌≡◌, ◌≤◌, List, Bool}
use Rattle.cabac_dec.specs.State.{IsOpen}
use Rattle.residual_read.specs.Parts.{shape_of}
use Rattle.scan_orders.specs.Marks.{AreMarks}
use Rattle.residual_read.specs.Going.{GoesOn}
use Rattle.residual_read.proofs.subs.read_subs.Given as goal

abbrev pub invariant-loop-left : goal.invariant-loop-left
invariant-loop-left l = record {
  opened : IsOpen l.decoder;
  few : l.left ≤ l.number;
  side : l.out.log2 ≡ l.initial.out.log2;
  done : (flags : List Bool) → AreMarks (shape_of l.shape) l.number flags l.initial.marks
      → GoesOn (shape_of l.shape) flags l.ended l.number l.initial.out.levels l.initial.decoder l.left l.marks l.last l.out.levels l.decoder;
}

abbrev pub decreases-loop-left : goal.decreases-loop-left
decreases-loop-left l = l.left
