use Rattle.std.proofs.Common.{ℕ, List, Option, sym, ◌∙◌}
use Rattle.frame_read.specs.Numbers.{before_number}
use Rattle.frame_read.proofs.Calls.{reads_at_err}
use Rattle.frame_read.proofs.NumberSteps.{goes_on, ends, is_wrong, fails}
use Rattle.frame_read.proofs.number.read_number.Goals as goal

pub returns-in_err-need_byte-clause-bytes : goal.returns-in_err-need_byte-clause-bytes
returns-in_err-need_byte-clause-bytes g c =
    let before : Option (List ℕ) = g.S.Source.left c.args.source.now in
    let after : Option (List ℕ) = g.S.Source.left c.need_byte.new.source in
    reads_at_err _ before after c.in_err-need_byte.field-0.0 c.from_residual.result c.from_residual.ensures.1
    (fails c.args.which (before_number c.args.in_comment) c.loop.stand before (g.S.Source.left c.loop.source) after _ _ c.loop.invariant
    c.in_err-need_byte.field-0.0 c.in_err-need_byte.ensures.bytes)

pub returns-in-End-clause-bytes : goal.returns-in-End-clause-bytes
returns-in-End-clause-bytes g c =
    ends c.args.which (before_number c.args.in_comment) c.loop.stand (g.S.Source.left c.args.source.now) (g.S.Source.left c.loop.source) (g.S.Source.left c.need_byte.new.source)
    _ _ c.loop.invariant c.in_ok-need_byte.field-0 c.in-End.number c.in_ok-need_byte.ensures.bytes (sym c.step.ensures ∙ c.in-End.is)

pub returns-in-Wrong-clause-bytes : goal.returns-in-Wrong-clause-bytes
returns-in-Wrong-clause-bytes g c =
    rw c.from.ensures
    (is_wrong c.args.which (before_number c.args.in_comment) c.loop.stand (g.S.Source.left c.args.source.now) (g.S.Source.left c.loop.source) (g.S.Source.left c.need_byte.new.source)
    _ _ c.loop.invariant c.in_ok-need_byte.field-0 c.in_ok-need_byte.ensures.bytes (sym c.step.ensures ∙ c.in-Wrong.is))

pub loop-preserved : goal.loop-preserved
loop-preserved g c =
    goes_on c.args.which (before_number c.args.in_comment) c.loop.stand (g.S.Source.left c.args.source.now) (g.S.Source.left c.loop.source) (g.S.Source.left c.need_byte.new.source)
    _ _ c.loop.invariant _ c.in_ok-need_byte.ensures.cause c.in_ok-need_byte.field-0 c.in-On.next c.in_ok-need_byte.ensures.bytes (sym c.step.ensures ∙ c.in-On.is)
