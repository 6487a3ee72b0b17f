use Rattle.std.proofs.Common.{◌≡◌, ◌<◌, Some}
use Rattle.h265_model.specs.Stream.{nal_header}
use Rattle.annexb.specs.Walks.{first_header}
use Rattle.stream_decode.specs.Steps.{last_of}
use Rattle.stream_decode.proofs.SegmentPictures.{IsBegun}
use Rattle.stream_decode.proofs.segments.read_segments_picture.Given as goal

abbrev pub invariant-loop-row : goal.invariant-loop-row
invariant-loop-row l = record {
  grid : l.grid.size ≡ l.fn.canvas.last.size;
  motion : l.motion.size ≡ l.fn.canvas.last.size;
  last : l.canvas.last ≡ l.fn.canvas.last;
  low : l.begun.poc < 256;
  first : l.row ≡ 0 → first_header l.cursor.list ≡ Some (nal_header l.fn.idr);
  begun : IsBegun l.fn.canvas.last.size (last_of l.fn.order l.fn.canvas.last) l.fn.idr l.row l.begun.poc l.begun.handed l.grid l.motion l.canvas l.fn.cursor l.cursor;
}
