use Rattle.h265_model.specs.Motion.{leaves}
use Rattle.unit_read.proofs.UnitReads.{unit_none, unit_taken}
use Rattle.std.proofs.Common.{◌∙◌}
use Rattle.unit_read.specs.Units.{rest_read}
use Rattle.unit_read.proofs.unit.read_unit.Goals as goal

pub returns-in_err-expect-clause-read : goal.returns-in_err-expect-clause-read
returns-in_err-expect-clause-read g c = λ before are. rw c.from_residual.ensures (unit_none c.args.kind c.args.size before c.args.block.x c.args.block.y c.args.block.log2 c.args.decoder.now (c.in_err-expect.ensures.value (rest_read c.args.kind c.args.size before c.args.block)))

pub returns-in_err-kept-clause-read : goal.returns-in_err-kept-clause-read
returns-in_err-kept-clause-read g c = λ before are. rw c.from_residual-in_err-kept.ensures (unit_none c.args.kind c.args.size before c.args.block.x c.args.block.y c.args.block.log2 c.args.decoder.now
    (c.in_ok-expect.ensures.value (rest_read c.args.kind c.args.size before c.args.block) ∙ c.in_err-kept.ensures.value before are.modes are.vectors))

pub returns-clause-read : goal.returns-clause-read
returns-clause-read g c = λ before are. unit_taken c.args.kind c.args.size before c.args.block.x c.args.block.y c.args.block.log2 c.in_ok-kept.kept c.args.decoder.now c.expect.new.decoder c.read_rest.new.decoder (g.S.LeafSink.stands_for c.args.sink.now) (g.S.LeafSink.stands_for c.read_rest.new.sink) c.set.new.self c.set-2.new.self
    c.in_ok-expect.ensures.value (c.in_ok-kept.ensures.value before are.modes are.vectors) are.lawful c.in_ok-kept.ensures.mode (c.set.ensures.set (leaves before) are.modes) (c.set-2.ensures.set before are.vectors c.in_ok-kept.kept.kind)
