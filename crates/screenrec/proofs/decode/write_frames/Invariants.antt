use Rattle.std.proofs.Common.{◌≡◌, ◌≤◌, ◌*◌, ◌^◌, None, length, take, drop}
use Rattle.recorder_model.specs.Files.{WhereTold}
use Rattle.recorder_model.specs.Frames.{frames}
use Rattle.screenrec.proofs.FrameLaws.{GoesTo}
use Rattle.screenrec.proofs.decode.write_frames.Given as goal

-- the frames of the pictures so far stand in the file, and the reader has the others
abbrev pub invariant-loop-count : goal.invariant-loop-count
invariant-loop-count g l = record {
  told : WhereTold (g.F.Shelf.files l.fn.shelf) (g.F.Shelf.files l.shelf) (GoesTo l.fn.reader.size l.name (take l.pictures l.fn.reader.pictures));
  counted : l.bytes ≡ length (frames l.fn.reader.size (take l.pictures l.fn.reader.pictures));
  rest : l.reader.pictures ≡ drop l.pictures l.fn.reader.pictures;
  stop : l.reader.stop ≡ None;
  size : l.reader.size ≡ l.fn.reader.size;
  few : l.pictures ≤ length l.fn.reader.pictures;
  short : l.bytes ≤ 2 ^ 27 * l.pictures;
  writes : g.F.Shelf.write_faults l.shelf ≡ g.F.Shelf.write_faults l.fn.shelf;
  reads : g.F.Shelf.read_faults l.shelf ≡ g.F.Shelf.read_faults l.fn.shelf;
}

abbrev pub decreases-loop-count : goal.decreases-loop-count
decreases-loop-count g l = length l.reader.pictures
