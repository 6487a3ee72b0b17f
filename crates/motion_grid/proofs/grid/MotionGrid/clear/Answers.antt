use Rattle.std.proofs.Common.{◌≡◌, ◌∙◌, ap, arith, None, get_or}
use Rattle.std.specs.Vec.{with_items}
use Rattle.std.proofs.lemmas.List.{with_items_is}
use Rattle.motion_grid.proofs.Placing.{none_set}
use Rattle.motion_grid.proofs.grid.MotionGrid.clear.Goals as goal

pub returns-clause-empty : goal.returns-clause-empty
returns-clause-empty c =
    let new : (with_items c.self.inside.cells c.empty.new.cells).items ≡ c.empty.new.cells = with_items_is c.self.inside.cells c.empty.new.cells (omega (arith, c.self.inside.cells.ok)) in
    none_set _ (λ i less. ap (λ l. get_or l i None) new ∙ c.empty.ensures.each i)
