use Rattle.h265_model.specs.Binarise.{bypass_bins, tr}
use Rattle.bin_items.specs.Growth.{IsOpen, TookAllBut}
use Rattle.bin_items.proofs.binarise.write_ones.Given as goal

abbrev pub invariant-loop-left : goal.invariant-loop-left
invariant-loop-left g l = record {
  opened : IsOpen (g.S.BinSink.phase l.sink);
  taken : TookAllBut (bypass_bins (tr l.left l.left)) (bypass_bins (tr l.count l.count)) (g.S.BinSink.stands_for l.initial.sink) (g.S.BinSink.stands_for l.sink);
}

abbrev pub decreases-loop-left : goal.decreases-loop-left
decreases-loop-left g l = l.left
