use Rattle.std.proofs.Common.{◌≡◌}
use Rattle.bin_items.specs.Growth.{IsOpen}
use Rattle.motion_code.specs.Moves.{HasShort}
use Rattle.motion_code.proofs.tests.write_tree.Given as goal

abbrev pub invariant-loop-block : goal.invariant-loop-block
invariant-loop-block g l = record {
  grid : l.grid.size ≡ l.random.size;
  motion : l.motion.size ≡ l.random.size;
  short : HasShort l.motion;
  opened : IsOpen (g.S.BinSink.phase l.sink);
}
