use Rattle.std.proofs.Common.{◌∙◌, arith, inl, inr, ⊎_elim}
use Rattle.chosen_units.proofs.Turns.{none_before, some_before}
use Rattle.chosen_units.proofs.choosing.ChosenUnitsCodedVectors.vector_before.Goals as goal

pub returns-then-x-eq0 : goal.returns-then-x-eq0
returns-then-x-eq0 c = λ units with. none_before units c.args.x c.args.y (⊎_elim (λ h. inl h) (λ h. inr h.1) c.then-x-eq0.either)

pub returns : goal.returns
returns c = λ units with.
    c.vector_at.ensures units with
    ∙ some_before units c.args.x c.args.y _ _ (omega (arith, c.if-x-eq0.false)) (omega (arith, c.if-y-eq0.false))
