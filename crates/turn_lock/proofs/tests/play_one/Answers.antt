use Rattle.std.proofs.Common.{ap, ◌∙◌}
use Rattle.turn_lock.specs.Turns.{made_by}
use Rattle.turn_lock.proofs.Histories.{numbers_more}
use Rattle.turn_lock.proofs.tests.play_one.Goals as goal

pub returns-in-Ok-clause-numbers : goal.returns-in-Ok-clause-numbers
returns-in-Ok-clause-numbers g c = λ a owns.
    let left = c.leave_with_entry.ensures.left in
    let entered = c.enter-state.ensures.entered in
    let made = ap (λ v. v.made) entered.2.1.after ∙ ap (λ v. v.made) entered.1 in
    let more = numbers_more _ _ a owns.0 (ap (made_by a) made ∙ owns.1) in
    (more.0, ap (λ v. made_by a v.made) left ∙ more.1)
