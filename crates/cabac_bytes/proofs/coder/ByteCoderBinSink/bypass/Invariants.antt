use Rattle.std.proofs.Common.{◌≤◌}
use Rattle.h265_model.specs.Binarise.{bypass_bins, fl}
use Rattle.bin_items.specs.Growth.{IsOpen, TookAllBut}
use Rattle.cabac_bytes.specs.State.{stands_for, phase_of}
use Rattle.cabac_bytes.proofs.coder.ByteCoderBinSink.bypass.Given as goal

abbrev pub invariant-loop-left : goal.invariant-loop-left
invariant-loop-left l = record {
  few : l.left ≤ l.count;
  opened : IsOpen (phase_of l.self);
  taken : TookAllBut (bypass_bins (fl l.left l.value)) (bypass_bins (fl l.count l.value)) (stands_for l.initial.self) (stands_for l.self);
}

abbrev pub decreases-loop-left : goal.decreases-loop-left
decreases-loop-left l = l.left
