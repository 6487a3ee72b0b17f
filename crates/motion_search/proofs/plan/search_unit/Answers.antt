use Rattle.std.proofs.Common.{refl, ◌∙◌, arith}
use Rattle.px_plane.specs.Planes.{picture_of}
use Rattle.motion_search.proofs.Costs.{plan_most}
use Rattle.motion_search.proofs.Planned.{search_is}
use Rattle.motion_search.proofs.plan.search_unit.Goals as goal

pub returns : goal.returns
returns c = λ units has.
    c.leaves.ensures
    ∙ search_is c.plan_block-cost.result 4294967295 2 c.args.x c.args.y c.new-choice.result _ c.new-chosen.result _ c.plan_block-cost.new.chosen c.new-choice.ensures c.new-chosen.ensures refl
    (λ b. let most = plan_most (picture_of c.args.before.now) (picture_of c.args.now.now) c.args.now.now.size c.args.effort c.args.x c.args.y b in omega (arith, most))
    c.plan_block-cost.ensures.planned units has
