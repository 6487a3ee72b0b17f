use Rattle.std.proofs.Common.{◌-◌, ◌*◌}
use Rattle.h265_model.specs.Binarise.{tr, context_bins}
use Rattle.h265_model.specs.Residual.{last_context}
use Rattle.bin_items.specs.Growth.{IsOpen, TookAllBut}
use Rattle.residual_code.proofs.last.write_prefix.Given as goal

abbrev pub invariant-loop-i : goal.invariant-loop-i
invariant-loop-i g l = record {
  opened : IsOpen (g.S.BinSink.phase l.sink);
  taken : TookAllBut (context_bins (last_context l.shape.component l.shape.log2 l.vertical) l.i (tr (2 * l.shape.log2 - 1 - l.i) (l.prefix - l.i)))
      (context_bins (last_context l.shape.component l.shape.log2 l.vertical) 0 (tr (2 * l.shape.log2 - 1) l.prefix))
      (g.S.BinSink.stands_for l.initial.sink) (g.S.BinSink.stands_for l.sink);
}
