use Rattle.std.proofs.Common.{◌≡◌, ℕ, ◌+◌, ◌*◌, ◌/◌, ◌%◌, List, [], ◌∷◌, ◌++◌, true, sym, ap, subst, ◌∙◌}
use Rattle.h265_model.specs.declared.moves.MoveLeaf.{MoveLeaf}
use Rattle.h265_model.specs.declared.moves.MoveKind.TheVariants as moves
use Rattle.h265_model.specs.Plain.{Size, Picture, block_at, ctu_x, ctu_y}
use Rattle.h265_model.specs.Tree.{is_whole, IsLawfulTree}
use Rattle.h265_model.specs.declared.leaf.SliceKind.TheVariants.{P}
use Rattle.motion_code.specs.Moves.{MayAllStand, coded_leaves}
use Rattle.h265_model.specs.Motion.{Moving, merge, no_motion}
use Rattle.h265_model.specs.MotionChoice.{MovePlan, unit_at, plan, moved_choice}
use Rattle.px_plane.specs.Planes.{picture_of}
use Rattle.motion_grid.specs.Cells.{Cells, HasMotion}
use Rattle.block_choice.specs.Plans.{IsSameTree}
use Rattle.motion_search.proofs.Still.{still_plan}
use Rattle.motion_search.proofs.Lawful.{choice_tree, choice_stands}
use Rattle.motion_search.proofs.plan.plan_moves.Goals as goal

-- the choice, with the width as it was read
abbrev units_at : Picture → Picture → Size → ℕ → List Moving → ℕ → ℕ → List MoveLeaf
units_at prev now size effort before ctu w = (plan prev now size effort 2 (ctu % ((w + 31) / 32) * 32) (ctu / ((w + 31) / 32) * 32) before).units

searched : (prev now : Picture) (size : Size) (effort ctu w : ℕ) (motion : Cells) (result : List MoveLeaf) → w ≡ size.w
    → ((before : List Moving) → HasMotion motion before → result ≡ units_at prev now size effort before ctu w)
    → (before : List Moving) → HasMotion motion before → result ≡ moved_choice prev now size effort before ctu
unfolding moved_choice
searched prev now size effort ctu w motion result e is before has = is before has ∙ ap (units_at prev now size effort before ctu) e

still : (prev now : Picture) (size : Size) (effort ctu w : ℕ) (motion : Cells) (result : List MoveLeaf) → w ≡ size.w
    → is_whole size 32 (ctu % ((w + 31) / 32) * 32) (ctu / ((w + 31) / 32) * 32) ≡ true → IsSameTree prev now size ctu
    → ((before : List Moving) → HasMotion motion before → merge before (block_at (ctu % ((w + 31) / 32) * 32) (ctu / ((w + 31) / 32) * 32) 5) ≡ no_motion)
    → result ≡ unit_at (block_at (ctu % ((w + 31) / 32) * 32) (ctu / ((w + 31) / 32) * 32) 5) moves.Skip ∷ []
    → (before : List Moving) → HasMotion motion before → result ≡ moved_choice prev now size effort before ctu
unfolding moved_choice
still prev now size effort ctu w motion result e whole alike none is before has =
    let at : is_whole size 32 (ctu_x size ctu) (ctu_y size ctu) ≡ true = subst (λ (n : ℕ). is_whole size 32 (ctu % ((n + 31) / 32) * 32) (ctu / ((n + 31) / 32) * 32) ≡ true) e whole in
    let zero : merge before (block_at (ctu_x size ctu) (ctu_y size ctu) 5) ≡ no_motion =
    subst (λ (n : ℕ). merge before (block_at (ctu % ((n + 31) / 32) * 32) (ctu / ((n + 31) / 32) * 32) 5) ≡ no_motion) e (none before has) in
    is ∙ (ap (λ (n : ℕ). unit_at (block_at (ctu % ((n + 31) / 32) * 32) (ctu / ((n + 31) / 32) * 32) 5) moves.Skip ∷ []) e
    ∙ sym (ap (λ (p : MovePlan). p.units) (still_plan prev now size ctu effort before at alike zero)))

-- the choice is a lawful tree of units that may stand
tree_of : (prev now : Picture) (size : Size) (effort ctu : ℕ) (motion : Cells) (result : List MoveLeaf)
    → ((before : List Moving) → HasMotion motion before → result ≡ moved_choice prev now size effort before ctu)
    → (before : List Moving) → HasMotion motion before → IsLawfulTree size ctu (coded_leaves result)
tree_of prev now size effort ctu motion result is before has =
    subst (λ (l : List MoveLeaf). IsLawfulTree size ctu (coded_leaves l)) (sym (is before has)) (choice_tree prev now size effort before ctu)

stands_of : (prev now : Picture) (size : Size) (effort ctu : ℕ) (motion : Cells) (result : List MoveLeaf)
    → ((before : List Moving) → HasMotion motion before → result ≡ moved_choice prev now size effort before ctu)
    → (before : List Moving) → HasMotion motion before → MayAllStand P result
stands_of prev now size effort ctu motion result is before has =
    subst (λ (l : List MoveLeaf). MayAllStand P l) (sym (is before has)) (choice_stands prev now size effort before ctu)

pub returns-then-stands_still : goal.returns-then-stands_still
returns-then-stands_still c =
    let size : c.size-size.result ≡ c.args.now.now.size = c.size-size.ensures.value in
    let ew : c.w.result ≡ c.args.now.now.size.w = c.w.ensures.value ∙ ap (λ (s : Size). s.w) size in
    let is : (before : List Moving) → HasMotion c.args.motion.now before → c.push.new.self ≡ moved_choice (picture_of c.args.before.now) (picture_of c.args.now.now) c.args.now.now.size c.args.effort before c.args.ctu =
    still (picture_of c.args.before.now) (picture_of c.args.now.now) c.args.now.now.size c.args.effort c.args.ctu c.w.result c.args.motion.now c.push.new.self ew
    (subst (λ (s : Size). is_whole s 32 (c.args.ctu % ((c.w.result + 31) / 32) * 32) (c.args.ctu / ((c.w.result + 31) / 32) * 32) ≡ true) size (c.stands_still.ensures.whole c.if-stands_still.true))
    (c.requires.untouched c.if-not-touched.true) (c.stands_still.ensures.merge c.if-stands_still.true)
    (c.push.ensures ∙ ap (λ (l : List MoveLeaf). l ++ unit_at (block_at (c.args.ctu % ((c.w.result + 31) / 32) * 32) (c.args.ctu / ((c.w.result + 31) / 32) * 32) 5) moves.Skip ∷ []) c.new-leaves.ensures) in
    record {
      planned = is;
      tree = tree_of (picture_of c.args.before.now) (picture_of c.args.now.now) c.args.now.now.size c.args.effort c.args.ctu c.args.motion.now c.push.new.self is;
      allowed = stands_of (picture_of c.args.before.now) (picture_of c.args.now.now) c.args.now.now.size c.args.effort c.args.ctu c.args.motion.now c.push.new.self is;
    }

pub returns : goal.returns
returns c =
    let ew : c.w.result ≡ c.args.now.now.size.w = c.w.ensures.value ∙ ap (λ (s : Size). s.w) c.size-size.ensures.value in
    let is : (before : List Moving) → HasMotion c.args.motion.now before → c.search_unit.result ≡ moved_choice (picture_of c.args.before.now) (picture_of c.args.now.now) c.args.now.now.size c.args.effort before c.args.ctu =
    searched (picture_of c.args.before.now) (picture_of c.args.now.now) c.args.now.now.size c.args.effort c.args.ctu c.w.result c.args.motion.now c.search_unit.result ew c.search_unit.ensures in
    record {
      planned = is;
      tree = tree_of (picture_of c.args.before.now) (picture_of c.args.now.now) c.args.now.now.size c.args.effort c.args.ctu c.args.motion.now c.search_unit.result is;
      allowed = stands_of (picture_of c.args.before.now) (picture_of c.args.now.now) c.args.now.now.size c.args.effort c.args.ctu c.args.motion.now c.search_unit.result is;
    }
