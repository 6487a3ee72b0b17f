use Rattle.std.proofs.Common.{◌∙◌, ap, Some}
use Rattle.h265_model.specs.Motion.{leaves}
use Rattle.unit_read.specs.Units.{Takes}
use Rattle.unit_read.proofs.UnitReads.{rest_none, rest_copied, rest_coded, hands_as}
use Rattle.unit_read.proofs.unit.read_rest.Goals as goal

pub returns-in_err-read_skip_flag-clause-value : goal.returns-in_err-read_skip_flag-clause-value
returns-in_err-read_skip_flag-clause-value g c = λ before stands has. rw c.from_residual.ensures (rest_none c.args.kind c.args.size before c.args.block.x c.args.block.y c.args.block.log2 c.args.decoder.now (c.in_err-read_skip_flag.ensures.value (leaves before) stands))

pub returns-then-branch-clause-value : goal.returns-then-branch-clause-value
returns-then-branch-clause-value g c = λ before stands has.
    hands_as c.take_copied.result _ _ c.read_skip_flag.new.decoder (Takes (g.S.LeafSink.stands_for c.args.sink.now) (g.S.LeafSink.stands_for c.take_copied.new.sink) c.args.size c.args.block)
    (rest_copied c.args.kind c.args.size before c.args.block.x c.args.block.y c.args.block.log2 c.merge.result c.args.decoder.now c.read_skip_flag.new.decoder (c.in_ok-read_skip_flag.ensures.value (leaves before) stands ∙ ap (λ b. Some (b, c.read_skip_flag.new.decoder)) c.if-branch.true) (c.merge.ensures before has))
    (c.take_copied.ensures.value c.read_skip_flag.new.decoder)

pub returns-clause-value : goal.returns-clause-value
returns-clause-value g c = λ before stands has.
    hands_as c.read_coded.result _ _ c.read_coded.new.decoder (Takes (g.S.LeafSink.stands_for c.args.sink.now) (g.S.LeafSink.stands_for c.read_coded.new.sink) c.args.size c.args.block)
    (rest_coded c.args.kind c.args.size before c.args.block.x c.args.block.y c.args.block.log2 c.args.decoder.now c.read_skip_flag.new.decoder (c.in_ok-read_skip_flag.ensures.value (leaves before) stands ∙ ap (λ b. Some (b, c.read_skip_flag.new.decoder)) c.if-branch.false))
    (c.read_coded.ensures.value before stands has)
