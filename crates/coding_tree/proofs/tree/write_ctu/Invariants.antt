use Rattle.std.proofs.Common.{◌≡◌, List}
use Rattle.h265_model.specs.declared.leaf.Leaf.{Leaf}
use Rattle.bin_items.specs.Growth.{IsOpen}
use Rattle.pu_code.specs.Cells.{StandsFor}
use Rattle.coding_tree.proofs.UnitSteps.{Written, HasSet}
use Rattle.coding_tree.proofs.tree.write_ctu.Given as goal

abbrev pub invariant-loop-leaf : goal.invariant-loop-leaf
invariant-loop-leaf g l = record {
  opened : IsOpen (g.S.BinSink.phase l.sink);
  size : l.grid.size ≡ l.size;
  source : g.V.LevelSource.source l.source ≡ g.V.LevelSource.source l.initial.source;
  set : HasSet l.initial.grid l.grid l.leaves l.leaf-index;
  written : (before : List Leaf) → StandsFor l.initial.grid before
      → Written l.kind l.size (g.V.LevelSource.source l.initial.source) before l.leaves l.leaf-index (g.S.BinSink.stands_for l.initial.sink) (g.S.BinSink.stands_for l.sink);
}
