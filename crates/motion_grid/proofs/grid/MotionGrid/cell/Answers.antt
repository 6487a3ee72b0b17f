use Rattle.std.proofs.Common.{ap, ◌∙◌, arith}
use Rattle.motion_grid.specs.Cells.{Cells, blocks, cell_at}
use Rattle.motion_grid.proofs.Placing.{cell_inside, cell_right, cell_below}
use Rattle.motion_grid.proofs.grid.MotionGrid.cell.Goals as goal

pub returns-then-column-columns : goal.returns-then-column-columns
returns-then-column-columns c =
    cell_right _ c.args.x c.args.y c.blocks_of-columns.result (c.blocks_of-columns.ensures.value ∙ ap blocks (c.w.ensures.value ∙ ap (λ (g : Cells). g.size.w) c.self.view_is)) c.if-column-columns.true

pub returns-then-row-rows : goal.returns-then-row-rows
returns-then-row-rows c =
    cell_below _ c.args.x c.args.y c.blocks_of-rows.result (c.blocks_of-rows.ensures.value ∙ ap blocks (c.h.ensures.value ∙ ap (λ (g : Cells). g.size.h) c.self.view_is)) c.if-row-rows.true

pub returns : goal.returns
returns c =
    cell_inside _ c.args.x c.args.y c.blocks_of-columns.result c.index.result.now c.self.invariant (c.blocks_of-columns.ensures.value ∙ ap blocks c.w.ensures.value) (omega arith) (omega arith) c.index.ensures
    ∙ ap (λ (g : Cells). cell_at g c.args.x c.args.y) c.self.view_is
