use Rattle.std.proofs.Common.{ap, ◌∙◌}
use Rattle.std.proofs.Common.{List}
use Rattle.h265_model.specs.Motion.{vector_in}
use Rattle.motion_grid.specs.Cells.{unit_at}
use Rattle.chosen_units.specs.declared.chosen.Chosen.{Chosen}
use Rattle.chosen_units.specs.Chosen.{movings}
use Rattle.chosen_units.proofs.Turns.{kept_place, chosen_place}
use Rattle.chosen_units.proofs.choosing.ChosenUnits.vector_at.Goals as goal

pub returns-in-Some : goal.returns-in-Some
returns-in-Some c =
    kept_place c.self.inside.motion.now c.self.inside.chosen.items c.args.self.now c.args.x c.args.y c.vector_at.result c.in-Some.vector c.self.view_is c.self.invariant c.vector_at.ensures c.in-Some.is

pub returns-in-None : goal.returns-in-None
returns-in-None c =
    chosen_place c.self.inside.motion.now c.self.inside.chosen.items c.args.self.now c.args.x c.args.y c.vector_at.result c.vector_among.result c.self.view_is c.self.invariant c.vector_at.ensures c.in-None.is
    (c.vector_among.ensures ∙ ap (λ (list : List Chosen). vector_in (unit_at (movings list) c.args.x c.args.y)) c.as_slice.ensures.value)
