use Rattle.std.proofs.Common.{◌∙◌, ap}
use Rattle.pu_code.specs.Cells.{Cells, blocks}
use Rattle.pu_code.proofs.Neighbours.{kept_bound}
use Rattle.pu_code.proofs.grid.Grid.cell.Goals as goal

pub returns-clause-mode : goal.returns-clause-mode
returns-clause-mode c =
    kept_bound _ c.args.x c.args.y c.blocks_of-columns.result c.index.result.now c.self.invariant (c.blocks_of-columns.ensures.value ∙ ap blocks c.w.ensures.value)
    (rw (ap (λ (g : Cells). g.size.w) c.self.view_is) c.requires.across) (rw (ap (λ (g : Cells). g.size.h) c.self.view_is) c.requires.down) c.index.ensures
