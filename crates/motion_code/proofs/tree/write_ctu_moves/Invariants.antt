use Rattle.std.proofs.Common.{◌≡◌, List}
use Rattle.h265_model.specs.Motion.{Moving}
use Rattle.bin_items.specs.Growth.{IsOpen}
use Rattle.motion_code.specs.Moves.{HasShort, AreKept}
use Rattle.motion_code.proofs.MoveSteps.{Written, HasSet}
use Rattle.motion_code.proofs.tree.write_ctu_moves.Given as goal

abbrev pub invariant-loop-unit : goal.invariant-loop-unit
invariant-loop-unit g l = record {
  opened : IsOpen (g.S.BinSink.phase l.sink);
  size : l.grid.size ≡ l.size;
  motion : l.motion.size ≡ l.size;
  short : HasShort l.motion;
  source : g.V.LevelSource.source l.source ≡ g.V.LevelSource.source l.initial.source;
  set : HasSet l.initial.grid l.grid l.initial.motion l.motion l.units l.unit-index;
  written : (before : List Moving) → AreKept l.initial.grid l.initial.motion before
      → Written l.kind l.size (g.V.LevelSource.source l.initial.source) before l.units l.unit-index (g.S.BinSink.stands_for l.initial.sink) (g.S.BinSink.stands_for l.sink);
}
