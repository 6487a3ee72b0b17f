use Rattle.std.proofs.Common.{ap, ◌∙◌, ℕ}
use Rattle.h265_model.specs.Motion.{or_none}
use Rattle.motion_grid.proofs.Kept.{merge_is, or_none_is, five}
use Rattle.motion_grid.proofs.neighbours.merge_vector.Goals as goal

pub returns : goal.returns
returns t c = λ units has.
    or_none_is c.neighbour.result c.unwrap_or.result c.unwrap_or.ensures
    ∙ (ap or_none (c.neighbour.ensures units has ∙ ap (λ (n : ℕ). five units c.args.block.x c.args.block.y n) c.side-n.ensures.value)
    ∙ merge_is units c.args.block.x c.args.block.y c.args.block.log2)
