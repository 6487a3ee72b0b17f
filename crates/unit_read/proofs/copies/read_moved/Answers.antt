use Rattle.h265_model.specs.Tree.{Moved}
use Rattle.std.proofs.Common.{sym}
use Rattle.unit_read.specs.Units.{Takes}
use Rattle.unit_read.proofs.UnitReads.{moved_none, moved_some, hands_as}
use Rattle.unit_read.proofs.copies.read_moved.Goals as goal

pub returns-in_err-vector-clause-value : goal.returns-in_err-vector-clause-value
returns-in_err-vector-clause-value g c = λ before has. rw c.from_residual.ensures (moved_none c.args.size before c.args.block.x c.args.block.y c.args.block.log2 c.args.decoder.now (c.in_err-vector.ensures.value before has))

pub returns-clause-value : goal.returns-clause-value
returns-clause-value g c = λ before has.
    hands_as c.take_moved.result _ _ c.read_move.new.decoder (Takes (g.S.LeafSink.stands_for c.args.sink.now) (g.S.LeafSink.stands_for c.take_moved.new.sink) c.args.size c.args.block)
    (sym (moved_some c.args.size before c.args.block.x c.args.block.y c.args.block.log2 (Moved c.in_ok-vector.vector) c.args.decoder.now c.read_move.new.decoder (c.in_ok-vector.ensures.value before has))) (c.take_moved.ensures.value c.read_move.new.decoder)
