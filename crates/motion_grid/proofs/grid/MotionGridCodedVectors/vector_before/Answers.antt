use Rattle.std.proofs.Common.{◌∙◌}
use Rattle.motion_grid.proofs.Kept.{before_is}
use Rattle.motion_grid.proofs.grid.MotionGridCodedVectors.vector_before.Goals as goal

pub returns : goal.returns
returns c = λ units has. c.before-2.ensures ∙ before_is c.args.self.now units c.args.x c.args.y has
