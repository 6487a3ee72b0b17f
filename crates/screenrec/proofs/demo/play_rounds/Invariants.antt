use Rattle.std.proofs.Common.{◌≡◌, ◌≤◌, ◌<◌, ◌+◌, ◌*◌, ◌^◌, length, map}
use Rattle.h265_model.specs.Plain.{below}
use Rattle.recorder_model.specs.Painting.{lines_of}
use Rattle.screenrec.specs.Stored.{stream_after}
use Rattle.screenrec.specs.Played.{HasPlayed}
use Rattle.screenrec.specs.Demo.{turn_entry, demo_settings}
use Rattle.screenrec.proofs.demo.play_rounds.Given as goal

-- the turns so far were played on the stage
abbrev pub invariant-loop-turn : goal.invariant-loop-turn
invariant-loop-turn l = record {
  order : l.order.items ≡ map turn_entry (below l.turn);
  played : HasPlayed demo_settings l.stage (lines_of l.scripts (map turn_entry (below l.turn)));
  counted : l.written ≡ length (stream_after demo_settings (lines_of l.scripts (map turn_entry (below l.turn))));
  cuts : l.stage.cuts ≤ l.turn;
  short : l.written < 2 ^ 40 * (l.turn + 1);
}
