use Rattle.std.proofs.Common.{◌≡◌, ◌≤◌, ◌<◌, ◌+◌, ◌*◌, ◌^◌, [], length, take}
use Rattle.std.specs.FinMap.{insert}
use Rattle.recorder_model.specs.Files.{Files, WhereTold}
use Rattle.screenrec.specs.Stored.{stream_after}
use Rattle.screenrec.specs.Played.{HasPlayed}
use Rattle.screenrec.proofs.stream_file.write_pictures.Given as goal

-- the lines so far were played on the stage, and their stream stands in the file
abbrev pub invariant-loop-index : goal.invariant-loop-index
invariant-loop-index g l = record {
  told : WhereTold (g.F.Shelf.files l.fn.shelf) (g.F.Shelf.files l.shelf) (λ before now. (start : Files) → before ≡ insert start l.name (stream_after l.fn.stage.encoder.settings []) → now ≡ insert start l.name (stream_after l.fn.stage.encoder.settings (take l.index l.script.lines)));
  counted : l.written ≡ length (stream_after l.fn.stage.encoder.settings (take l.index l.script.lines));
  played : HasPlayed l.fn.stage.encoder.settings l.stage (take l.index l.script.lines);
  cuts : l.stage.cuts ≤ l.index;
  short : l.written < 2 ^ 40 * (l.index + 1);
  writes : g.F.Shelf.write_faults l.shelf ≡ g.F.Shelf.write_faults l.fn.shelf;
  reads : g.F.Shelf.read_faults l.shelf ≡ g.F.Shelf.read_faults l.fn.shelf;
}
