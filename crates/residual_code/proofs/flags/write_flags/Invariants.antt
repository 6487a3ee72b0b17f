use Rattle.std.proofs.Common.{◌≡◌, ◌≤◌, ◌+◌, ◌++◌, length}
use Rattle.h265_model.specs.Residual.{sig_items, nonzero}
use Rattle.bin_items.specs.Growth.{IsOpen, TookAllBut}
use Rattle.residual_code.specs.Parts.{shape_of, sub_of, tile_levels, has_members}
use Rattle.residual_code.proofs.flags.write_flags.Given as goal

abbrev pub invariant-loop-left : goal.invariant-loop-left
invariant-loop-left g l = record {
  opened : IsOpen (g.S.BinSink.phase l.sink);
  few : l.left ≤ l.top;
  room : length l.values.items + l.left ≤ 16;
  values : l.values.items ++ nonzero (tile_levels l.shape.scan l.tile l.left) ≡ l.initial.values.items ++ nonzero (tile_levels l.shape.scan l.tile l.top);
  taken : TookAllBut (sig_items (shape_of l.shape) (sub_of l.sub) l.inner (has_members l.values.items) (tile_levels l.shape.scan l.tile l.left))
      (sig_items (shape_of l.shape) (sub_of l.sub) l.inner (has_members l.initial.values.items) (tile_levels l.shape.scan l.tile l.top))
      (g.S.BinSink.stands_for l.initial.sink) (g.S.BinSink.stands_for l.sink);
}

abbrev pub decreases-loop-left : goal.decreases-loop-left
decreases-loop-left g l = l.left
