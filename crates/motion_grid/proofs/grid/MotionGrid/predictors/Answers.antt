use Rattle.std.proofs.Common.{◌∙◌}
use Rattle.motion_grid.proofs.Kept.{predictors_are}
use Rattle.motion_grid.proofs.grid.MotionGrid.predictors.Goals as goal

pub returns : goal.returns
returns c = λ units has.
    c.two_of.ensures
    ∙ rw (c.or-left.ensures, c.or-above.ensures, c.or.ensures, c.before-2.ensures, c.before-3.ensures, c.before-4.ensures, c.before-5.ensures, c.before-6.ensures, c.side-n.ensures.value)
    (predictors_are c.args.self.now units c.args.block.x c.args.block.y c.args.block.log2 has)
