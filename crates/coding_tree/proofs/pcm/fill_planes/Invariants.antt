use Rattle.std.proofs.Common.{◌≡◌, ◌*◌, take}
use Rattle.bin_items.specs.Square.{area}
use Rattle.coding_tree.proofs.SampleLaws.{of_first}
use Rattle.coding_tree.proofs.pcm.fill_planes.Given as goal

abbrev pub invariant-loop-component : goal.invariant-loop-component
invariant-loop-component g l = record {
  samples : take l.end l.planes ≡ of_first (g.V.LevelSource.source l.fn.source) l.leaf l.component;
  end : l.end ≡ l.component * area l.leaf.block.log2;
  kept : g.V.LevelSource.source l.source ≡ g.V.LevelSource.source l.fn.source;
}
