use Rattle.std.proofs.Common.{◌∙◌, ap, Some}
use Rattle.h265_model.specs.Tree.{own_read}
use Rattle.unit_read.specs.Units.{Takes}
use Rattle.unit_read.proofs.UnitReads.{inter_none, inter_own, inter_moved, still, hands_as}
use Rattle.unit_read.proofs.unit.read_inter.Goals as goal
use Rattle.h265_model.specs.Plain.{block_at}

pub returns-in_err-bin-clause-value : goal.returns-in_err-bin-clause-value
returns-in_err-bin-clause-value g c = λ before stands has. rw c.from_residual.ensures (inter_none c.args.size before c.args.block.x c.args.block.y c.args.block.log2 c.args.decoder.now c.in_err-bin.ensures.value)

pub returns-then-branch-clause-value : goal.returns-then-branch-clause-value
returns-then-branch-clause-value g c = λ before stands has.
    hands_as c.read_own.result _ _ c.read_own.new.decoder (Takes (g.S.LeafSink.stands_for c.args.sink.now) (g.S.LeafSink.stands_for c.read_own.new.sink) c.args.size c.args.block)
    (inter_own c.args.size before c.args.block.x c.args.block.y c.args.block.log2 c.args.decoder.now c.bin.new.self (c.in_ok-bin.ensures.value ∙ ap (λ b. Some (b, c.bin.new.self)) c.if-branch.true))
    (still c.read_own.result (own_read before c.args.block) c.args.size c.args.block.x c.args.block.y c.args.block.log2 c.bin.new.self c.read_own.new.decoder (Takes (g.S.LeafSink.stands_for c.args.sink.now) (g.S.LeafSink.stands_for c.read_own.new.sink) c.args.size c.args.block)
    c.read_own.ensures.still (c.read_own.ensures.value before stands))

pub returns-else-branch-clause-value : goal.returns-else-branch-clause-value
returns-else-branch-clause-value g c = λ before stands has.
    hands_as c.read_moved.result _ _ c.read_moved.new.decoder (Takes (g.S.LeafSink.stands_for c.args.sink.now) (g.S.LeafSink.stands_for c.read_moved.new.sink) c.args.size c.args.block)
    (inter_moved c.args.size before c.args.block.x c.args.block.y c.args.block.log2 c.args.decoder.now c.bin.new.self (c.in_ok-bin.ensures.value ∙ ap (λ b. Some (b, c.bin.new.self)) c.if-branch.false))
    (c.read_moved.ensures.value before has)
