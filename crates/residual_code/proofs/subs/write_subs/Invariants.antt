use Rattle.std.proofs.Common.{◌≤◌, List, Bool}
use Rattle.bin_items.specs.Growth.{IsOpen}
use Rattle.residual_code.specs.Parts.{shape_of, sub_levels}
use Rattle.scan_orders.specs.Marks.{AreMarks}
use Rattle.residual_code.proofs.SubSteps.{Done}
use Rattle.residual_code.proofs.subs.write_subs.Given as goal

abbrev pub invariant-loop-left : goal.invariant-loop-left
invariant-loop-left g l = record {
  opened : IsOpen (g.S.BinSink.phase l.sink);
  few : l.left ≤ l.number;
  done : (flags : List Bool) → AreMarks (shape_of l.shape) l.number flags l.initial.marks
      → Done (shape_of l.shape) (sub_levels (shape_of l.shape) l.levels) l.number l.left flags l.initial.ended l.ended l.marks (g.S.BinSink.stands_for l.initial.sink) (g.S.BinSink.stands_for l.sink);
}

abbrev pub decreases-loop-left : goal.decreases-loop-left
decreases-loop-left g l = l.left
