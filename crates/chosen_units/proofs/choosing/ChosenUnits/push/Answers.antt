use Rattle.std.proofs.Common.{◌≡◌, sym, subst, List, arith}
use Rattle.h265_model.specs.Motion.{Moving, merge, coded_after, kind_vector}
use Rattle.motion_grid.specs.Cells.{HasMotion}
use Rattle.chosen_units.specs.Chosen.{Choosing, AreChosen}
use Rattle.chosen_units.proofs.Turns.{chosen_more}
use Rattle.chosen_units.proofs.choosing.ChosenUnits.push.Goals as goal

pub invariant_of-self : goal.invariant_of-self
invariant_of-self c =
    subst (AreChosen c.self.inside.motion.now) (sym c.push.ensures.items)
    (chosen_more c.self.inside.motion.now c.self.inside.chosen.items (record { unit = c.args.unit; vector = c.vector_of-vector.result }) c.self.invariant
    (record { low = c.requires.low; high = c.requires.high; x = omega (arith, c.requires.across); y = omega (arith, c.requires.down) }) (subst (λ (k : Choosing). (before : List Moving) → HasMotion k.motion before → c.vector_of-vector.result ≡ kind_vector (merge (coded_after before k.units) c.args.unit.block) c.args.unit.kind)
    (sym c.self.view_is) c.vector_of-vector.ensures))
