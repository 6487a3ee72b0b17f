use Rattle.std.proofs.Common.{◌∙◌, ap, take, subst, sym}
use Rattle.chosen_units.specs.Chosen.{Choosing, AreChosen, units_of}
use Rattle.chosen_units.proofs.Turns.{chosen_take, units_take}
use Rattle.chosen_units.proofs.choosing.ChosenUnits.truncate.Goals as goal

pub invariant_of-self : goal.invariant_of-self
invariant_of-self c = subst (AreChosen c.self.inside.motion.now) (sym c.truncate.ensures.items) (chosen_take c.self.inside.motion.now c.args.count c.self.inside.chosen.items c.self.invariant)

pub returns-clause-units : goal.returns-clause-units
returns-clause-units c = ap units_of c.truncate.ensures.items ∙ (units_take c.args.count c.self.inside.chosen.items ∙ ap (λ (k : Choosing). take c.args.count k.units) c.self.view_is)
