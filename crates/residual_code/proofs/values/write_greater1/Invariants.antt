use Rattle.std.proofs.Common.{◌-◌, ◌≤◌, ◌+◌, map, drop}
use Rattle.std.specs.Prelude.{nat_abs}
use Rattle.h265_model.specs.Residual.{greater1_items, greater1_flags}
use Rattle.bin_items.specs.Growth.{IsOpen, TookAllBut}
use Rattle.residual_code.proofs.values.write_greater1.Given as goal

abbrev pub invariant-loop-i : goal.invariant-loop-i
invariant-loop-i g l = record {
  opened : IsOpen (g.S.BinSink.phase l.sink);
  high : l.counter ≤ l.i + 1;
  taken : TookAllBut (greater1_items l.component l.set l.counter (greater1_flags (8 - l.i) (drop l.i (map nat_abs l.values))))
      (greater1_items l.component l.set 1 (greater1_flags 8 (map nat_abs l.values)))
      (g.S.BinSink.stands_for l.initial.sink) (g.S.BinSink.stands_for l.sink);
}
