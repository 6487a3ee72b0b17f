-- The plan of one coding unit.
use Rattle.std.proofs.Common.{◌≡◌, refl, ◌∙◌, ℕ, ◌+◌, ◌*◌, ◌/◌, ◌^◌, ◌≤◌, Bool, true, [], ◌∷◌, get_or, arith, inl, inr}
use Rattle.std.specs.Prelude.{Option, Some, None}
use Rattle.std.proofs.lemmas.Bool.{and_from, le-leb, cases_eq}
use Rattle.h265_model.specs.declared.block.CodingBlock.{CodingBlock}
use Rattle.h265_model.specs.declared.leaf.Kind.TheVariants.{Pcm, Skip}
use Rattle.h265_model.specs.Plain.{Size, Picture, coded, leaf_with}
use Rattle.h265_model.specs.Tree.{is_whole}
use Rattle.h265_model.specs.Choice.{Plan, best_of, one_leaf, pcm_cost, leaf_plan, modes_of, skips}
use Rattle.leaf_cost.specs.declared.best.Best.{Best}
use Rattle.leaf_cost.proofs.Sums.{cost_least}
use Rattle.block_choice.specs.Plans.{intra_plans, IsLeafPlan, IsWholeLeaf}
use Rattle.block_choice.proofs.Cheapest.{best_first, all_dear}

pub copied_plan : (prev : Option Picture) (now : Picture) (size : Size) (effort : ℕ) (block : CodingBlock)
    → skips prev now (leaf_with block Skip) ≡ one_leaf 1 (leaf_with block Skip) ∷ [] → leaf_plan prev now size effort block ≡ one_leaf 1 (leaf_with block Skip)
unfolding leaf_plan pcm_cost
copied_plan prev now size effort block e =
    rw e
    (best_first (one_leaf 1 (leaf_with block Skip)) (intra_plans size now block (modes_of effort)) (one_leaf (pcm_cost block.log2) (leaf_with block Pcm))
    (all_dear size now block 1 (modes_of effort) (λ i h. let least = cost_least size now block (get_or (modes_of effort) i 0) in omega arith)) (omega arith))

pub coded_plan : (prev : Option Picture) (now : Picture) (size : Size) (effort : ℕ) (block : CodingBlock) → skips prev now (leaf_with block Skip) ≡ []
    → leaf_plan prev now size effort block ≡ best_of (intra_plans size now block (modes_of effort)) (one_leaf (pcm_cost block.log2) (leaf_with block Pcm))
unfolding leaf_plan
coded_plan prev now size effort block e = rw e refl

pub whole_from : (r : Option Best) (limit : ℕ) (block : CodingBlock) (whole : Bool) (p q : Plan) → whole ≡ true → q ≡ p → IsLeafPlan r limit block p → IsWholeLeaf r limit block whole q
whole_from None limit block whole p q w e is = λ _. rw e is
whole_from (Some b) limit block whole p q w e is = (w, is.0, e ∙ is.1)

pub whole_is : (size : Size) (x y n : ℕ) → x + n ≤ coded size.w → y + n ≤ coded size.h → is_whole size n x y ≡ true
whole_is size x y n hx hy = and_from _ _ (le-leb (x + n) (coded size.w) hx) (le-leb (y + n) (coded size.h) hy)

-- the side of a block in squares
pub side_eights : (log2 : ℕ) → 3 ≤ log2 → log2 ≤ 5 → (2 ^ log2 / 8 * 8 ≡ 2 ^ log2) × (1 ≤ 2 ^ log2 / 8) × (2 ^ log2 ≤ 32)
side_eights log2 low high = elim (cases_eq log2 3) [
  | inl three ↦ rw three (refl, omega arith, omega arith)
  | inr not_three ↦ elim (cases_eq log2 4) [
    | inl four ↦ rw four (refl, omega arith, omega arith)
    | inr not_four ↦
        let five : log2 ≡ 5 = omega arith in
        rw five (refl, omega arith, omega arith)
  ]
]
