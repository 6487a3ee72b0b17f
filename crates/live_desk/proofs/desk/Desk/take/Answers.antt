use Rattle.std.proofs.Common.{◌∙◌, subst}
use Rattle.turn_lock.specs.Standing.{Standing}
use Rattle.live_desk.specs.Answers.{HasAnswered}
use Rattle.live_desk.proofs.Calls.{has_answered, stays_recorder}
use Rattle.live_desk.proofs.Turning.{waited}
use Rattle.live_desk.proofs.desk.Desk.take.Goals as goal

pub invariant_of-pass : goal.invariant_of-pass
invariant_of-pass g c =
    stays_recorder c.pass.inside.pass c.take_one.new.pass c.enter-state.new.pass.knows c.enter-state.result c.take_one.result c.pass.invariant
    (waited c.pass.inside.pass.knows c.enter-state.new.pass.knows c.enter-state.result c.enter-state.ensures.entered) c.take_one.ensures.answer

pub returns : goal.returns
returns g c =
    subst (λ (p : Standing). HasAnswered p c.take_one.new.pass c.take_one.result) c.pass.view_is
    (has_answered c.pass.inside.pass c.take_one.new.pass c.enter-state.new.pass.knows c.enter-state.result c.take_one.result c.pass.invariant
    (waited c.pass.inside.pass.knows c.enter-state.new.pass.knows c.enter-state.result c.enter-state.ensures.entered) (c.take_one.ensures.turn ∙ c.enter-state.ensures.turn) c.take_one.ensures.answer)
