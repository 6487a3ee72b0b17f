use Rattle.h265_model.specs.Binarise.{bypass_bins, fl}
use Rattle.std.proofs.Common.{◌≤◌}
use Rattle.bin_items.specs.Growth.{IsOpen, TookAllBut}
use Rattle.bin_items.proofs.sink.BinSink.bypass.Given as goal

abbrev pub invariant-loop-left : goal.invariant-loop-left
invariant-loop-left g l = record {
  few : l.left ≤ l.count;
  opened : IsOpen (g.Self.BinSink.phase l.self);
  taken : TookAllBut (bypass_bins (fl l.left l.value)) (bypass_bins (fl l.count l.value)) (g.Self.BinSink.stands_for l.initial.self) (g.Self.BinSink.stands_for l.self);
}

abbrev pub decreases-loop-left : goal.decreases-loop-left
decreases-loop-left g l = l.left
