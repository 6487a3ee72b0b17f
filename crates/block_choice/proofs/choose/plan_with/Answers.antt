use Rattle.std.proofs.Common.{◌≡◌, ℕ, List, [], ◌++◌, Option, Some, None, ◌∙◌, ap, arith}
use Rattle.h265_model.specs.declared.leaf.Leaf.{Leaf}
use Rattle.h265_model.specs.Plain.{Size, Picture}
use Rattle.h265_model.specs.Choice.{plan}
use Rattle.px_plane.specs.Planes.{picture_of}
use Rattle.block_choice.specs.Plans.{before, IsPlanned}
use Rattle.block_choice.proofs.Planned.{plan_most}
use Rattle.block_choice.proofs.choose.plan_with.Goals as goal

leaves_are : (r : Option ℕ) (prev : Option Picture) (now : Picture) (size : Size) (effort x y : ℕ) (old new : List Leaf) → old ≡ []
    → IsPlanned r 4294967295 (plan prev now size effort 2 x y) old new → new ≡ (plan prev now size effort 2 x y).leaves
leaves_are None prev now size effort x y old new none is = let most = plan_most prev now size effort x y in let low = is.0 in absurd (omega arith)
leaves_are (Some cost) prev now size effort x y old new none is = is.2 ∙ ap (λ (l : List Leaf). l ++ (plan prev now size effort 2 x y).leaves) none

pub returns : goal.returns
returns c =
    leaves_are c.plan_block-cost.result (before c.args.has_prev (picture_of c.args.prev.now)) (picture_of c.args.now.now) c.args.now.now.size c.args.effort c.args.x c.args.y
    c.new-leaves.result.items c.plan_block-cost.new.leaves.items c.new-leaves.ensures c.plan_block-cost.ensures.planned
