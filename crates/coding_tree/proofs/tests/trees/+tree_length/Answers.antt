use Rattle.std.proofs.Common.{◌<◌, ◌∙◌, ap, subst, refl, arith}
use Rattle.h265_model.specs.Plain.{coded}
use Rattle.coding_tree.proofs.MadeUp.{unit_tree, quarters_tree, half_side}
use Rattle.coding_tree.proofs.tests.trees.+tree_length.Goals as goal

pub returns-then-begins_with_unit-clause-tree : goal.returns-then-begins_with_unit-clause-tree
returns-then-begins_with_unit-clause-tree t c = unit_tree c.args.size c.args.depth c.args.x c.args.y _ c.requires.depth
    (subst (λ n. c.args.x < n) (c.coded_side.ensures ∙ ap coded c.w.ensures.value) c.if-x-coded_side.false)
    (subst (λ n. c.args.y < n) (c.coded_side-else-x-coded_side.ensures ∙ ap coded c.h.ensures.value) c.if-y-coded_side.false)
    (c.if-begins_with_unit.ensures.whole refl) (c.if-begins_with_unit.ensures.unit refl)

pub returns-clause-tree : goal.returns-clause-tree
returns-clause-tree t c = quarters_tree c.args.size c.args.depth c.args.x c.args.y _ c.args.leaves.now _ _ _ _ (omega arith) (half_side c.args.depth c.requires.depth)
    (subst (λ n. c.args.x < n) (c.coded_side.ensures ∙ ap coded c.w.ensures.value) c.if-x-coded_side.false)
    (subst (λ n. c.args.y < n) (c.coded_side-else-x-coded_side.ensures ∙ ap coded c.h.ensures.value) c.if-y-coded_side.false)
    c.in_ok-first.ensures.tree c.in_ok-second.ensures.tree c.in_ok-third.ensures.tree c.in_ok-fourth.ensures.tree
