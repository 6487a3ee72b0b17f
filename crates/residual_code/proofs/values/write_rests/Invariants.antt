use Rattle.std.proofs.Common.{◌-◌, ◌≤◌, map, drop, false}
use Rattle.std.specs.Prelude.{nat_abs}
use Rattle.bin_items.specs.Growth.{IsOpen, TookAllBut}
use Rattle.residual_code.specs.Parts.{rests_from}
use Rattle.residual_code.proofs.values.write_rests.Given as goal

abbrev pub invariant-loop-i : goal.invariant-loop-i
invariant-loop-i g l = record {
  opened : IsOpen (g.S.BinSink.phase l.sink);
  low : l.rice ≤ 4;
  taken : TookAllBut (rests_from l.rice l.seen (8 - l.i) (drop l.i (map nat_abs l.values)))
      (rests_from 0 false 8 (map nat_abs l.values))
      (g.S.BinSink.stands_for l.initial.sink) (g.S.BinSink.stands_for l.sink);
}
