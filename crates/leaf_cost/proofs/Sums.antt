-- The cost of a mode, from the three components of a block.
use Rattle.std.proofs.Common.{◌≡◌, refl, ap, ◌∙◌, ℕ, ◌+◌, ◌≤◌, [], ◌∷◌, sum_by, arith}
use Rattle.std.proofs.lemmas.List.Sums.{sum_by-cons}
use Rattle.h265_model.specs.declared.leaf.Kind.TheVariants.{Intra}
use Rattle.h265_model.specs.declared.block.CodingBlock.{CodingBlock}
use Rattle.h265_model.specs.Plain.{Size, Picture, leaf_with, below}
use Rattle.h265_model.specs.Predict.{references}
use Rattle.h265_model.specs.Tree.{levels_in}
use Rattle.h265_model.specs.Choice.{level_cost, intra_cost}
use Rattle.leaf_cost.specs.declared.plane.PlaneBlock.{PlaneBlock}
use Rattle.leaf_cost.specs.declared.best.LeafBlock.{LeafBlock}
use Rattle.leaf_cost.specs.Costs.{IsPlaneBlock, block_levels, block_cost}

levels_are : (b : PlaneBlock) (size : Size) (p : Picture) (component : ℕ) (block : CodingBlock) (mode : ℕ) → IsPlaneBlock b size p component block
    → block_levels b mode block.log2 ≡ levels_in size p (leaf_with block (Intra mode)) component
unfolding references
levels_are b size p component block mode is = rw (is.samples, is.smoothed_is, is.plain, is.component_is) refl

three : (f : ℕ → ℕ) → sum_by f (below 3) ≡ f 0 + (f 1 + (f 2 + 0))
three f =
    sum_by-cons f 0 (1 ∷ 2 ∷ []) ∙ ap (λ (s : ℕ). f 0 + s) (sum_by-cons f 1 (2 ∷ []) ∙ ap (λ (s : ℕ). f 1 + s) (sum_by-cons f 2 []))

pub cost_is : (b : LeafBlock) (size : Size) (p : Picture) (block : CodingBlock) (mode : ℕ) → IsPlaneBlock b.g size p 0 block → IsPlaneBlock b.b size p 1 block → IsPlaneBlock b.r size p 2 block
    → block_cost b mode block.log2 ≡ intra_cost size p (leaf_with block (Intra mode))
unfolding intra_cost
cost_is b size p block mode g is_b r =
    let f : ℕ → ℕ = λ component. sum_by level_cost (levels_in size p (leaf_with block (Intra mode)) component) in
    let s : sum_by f (below 3) ≡ f 0 + (f 1 + (f 2 + 0)) = three f in
    let a = ap (sum_by level_cost) (levels_are b.g size p 0 block mode g) in
    let d = ap (sum_by level_cost) (levels_are b.b size p 1 block mode is_b) in
    let e = ap (sum_by level_cost) (levels_are b.r size p 2 block mode r) in
    rw s (omega (arith, a, d, e))

pub cost_least : (size : Size) (p : Picture) (block : CodingBlock) (mode : ℕ) → 8 ≤ intra_cost size p (leaf_with block (Intra mode))
unfolding intra_cost
cost_least size p block mode = omega arith
