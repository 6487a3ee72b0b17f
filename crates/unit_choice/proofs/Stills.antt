-- Plans of units that aren't moved, as they are where no blocks move.
use Rattle.std.proofs.Common.{◌≡◌, refl, ap, ◌∙◌, ℕ, Bool, true, false, List, [], ◌∷◌, ◌++◌, map}
use Rattle.std.specs.Prelude.{nat_le, cond}
use Rattle.h265_model.specs.declared.block.CodingBlock.{CodingBlock}
use Rattle.h265_model.specs.declared.leaf.Kind.TheVariants.{Intra, Pcm}
use Rattle.h265_model.specs.declared.moves.MoveKind.TheVariants as moves
use Rattle.h265_model.specs.Plain.{Size, Picture, leaf_with}
use Rattle.h265_model.specs.Choice.{Plan, one_leaf, intra_cost, pcm_cost, modes_of}
use Rattle.h265_model.specs.Choice as stills
use Rattle.h265_model.specs.Motion.{still}
use Rattle.h265_model.specs.MotionChoice.{MovePlan, cheaper, cheapest, best_of, one_unit, unit_at}
use Rattle.block_choice.specs.Plans as blocks
use Rattle.unit_choice.specs.Units.{still_plan}

-- a plan without moves
abbrev pub lifted : Plan → MovePlan
lifted plan = record { cost = plan.cost; units = map still plan.leaves }

lifted_cheaper : (a b : Plan) → cheaper (lifted a) (lifted b) ≡ lifted (stills.cheaper a b)
lifted_cheaper a b = go (nat_le a.cost b.cost)
  where
    go : (first : Bool) → cond first (lifted a) (lifted b) ≡ lifted (cond first a b)
    go true = refl
    go false = refl

lifted_cheapest : (best : Plan) (plans : List Plan) (last : Plan)
    → cheapest (lifted best) (map lifted plans ++ lifted last ∷ []) ≡ lifted (stills.cheapest best (plans ++ last ∷ []))
lifted_cheapest best [] last = lifted_cheaper best last
lifted_cheapest best (p ∷ plans) last =
    ap (λ (b : MovePlan). cheapest b (map lifted plans ++ lifted last ∷ [])) (lifted_cheaper best p)
    ∙ lifted_cheapest (stills.cheaper best p) plans last

lifted_best : (plans : List Plan) (last : Plan) → best_of (map lifted plans) (lifted last) ≡ lifted (stills.best_of plans last)
lifted_best [] last = refl
lifted_best (p ∷ plans) last = lifted_cheapest p plans last

lifted_modes : (now : Picture) (size : Size) (block : CodingBlock) (modes : List ℕ)
    → map (λ mode. one_unit (intra_cost size now (leaf_with block (Intra mode))) (unit_at block (moves.Intra mode))) modes
    ≡ map lifted (blocks.intra_plans size now block modes)
lifted_modes now size block [] = refl
lifted_modes now size block (m ∷ modes) =
    ap (λ (l : List MovePlan). one_unit (intra_cost size now (leaf_with block (Intra m))) (unit_at block (moves.Intra m)) ∷ l) (lifted_modes now size block modes)

-- the cheapest of the modes and samples
pub lifted_still : (now : Picture) (size : Size) (effort : ℕ) (block : CodingBlock)
    → still_plan now size effort block
    ≡ lifted (stills.best_of (blocks.intra_plans size now block (modes_of effort)) (one_leaf (pcm_cost block.log2) (leaf_with block Pcm)))
lifted_still now size effort block =
    ap (λ (l : List MovePlan). best_of l (one_unit (pcm_cost block.log2) (unit_at block moves.Pcm))) (lifted_modes now size block (modes_of effort))
    ∙ lifted_best (blocks.intra_plans size now block (modes_of effort)) (one_leaf (pcm_cost block.log2) (leaf_with block Pcm))
