use Rattle.std.proofs.Common.{sym, ◌*◌}
use Rattle.h265_model.specs.Tree.{ends_row}
use Rattle.unit_read.specs.Units.{AreTaken}
use Rattle.tree_read.proofs.RowReads.{row_as, segment_open, segment_ends}
use Rattle.tree_read.proofs.row.read_segment_row.Goals as goal

pub returns-clause-read : goal.returns-clause-read
returns-clause-read g c = λ before kept.
    row_as c.read_units.result _ _ c.read_units.new.decoder
    (AreTaken (g.S.LeafSink.stands_for c.args.sink.now) (g.S.LeafSink.stands_for c.read_units.new.sink) c.args.size 0 (c.args.row * 32) c.read_units.new.grid c.read_units.new.motion before)
    (sym (segment_open c.args.kind c.args.size c.args.row before c.args.decoder.now)) (c.read_units.ensures.read (ends_row c.args.size) before (segment_ends c.args.size c.args.row) kept)
