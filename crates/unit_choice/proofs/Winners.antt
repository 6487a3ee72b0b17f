-- The cheapest unit of a block, by what was found of it.
use Rattle.std.proofs.Common.{◌≡◌, refl, ap, ◌∙◌, ℕ, ◌<◌, ◌≤◌, Bool, true, false, List, ◌++◌, map, get_or, arith, inl, inr}
use Rattle.std.specs.Prelude.{Option, Some, None}
use Rattle.std.specs.Option.{IsSome}
use Rattle.std.specs.List.{find, filter}
use Rattle.std.proofs.lemmas.Bool.{cases_eq}
use Rattle.h265_model.specs.declared.block.CodingBlock.{CodingBlock}
use Rattle.h265_model.specs.declared.leaf.Kind.TheVariants.{Skip, Pcm}
use Rattle.h265_model.specs.declared.moves.Vector.{Vector}
use Rattle.h265_model.specs.declared.moves.MoveLeaf.{MoveLeaf}
use Rattle.h265_model.specs.declared.moves.MoveKind.TheVariants as moves
use Rattle.h265_model.specs.Plain.{Size, Picture, leaf_with}
use Rattle.h265_model.specs.Choice.{Plan, one_leaf, pcm_cost, modes_of}
use Rattle.h265_model.specs.Choice as stills
use Rattle.h265_model.specs.Motion.{Moving, merge, still}
use Rattle.h265_model.specs.MotionChoice.{best_of, one_unit, unit_at, tried_vectors, is_copy_by, intra_plans, unit_plan}
use Rattle.leaf_cost.specs.declared.best.Best.{Best}
use Rattle.leaf_cost.proofs.Sums.{cost_least}
use Rattle.block_choice.specs.Plans as blocks
use Rattle.block_choice.proofs.Cheapest.{best_most, best_least, all_dear}
use Rattle.unit_choice.specs.Units.{still_plan, unskipped_plan}
use Rattle.unit_choice.proofs.Plans.{cheaper_first, front, move, moves_cheap, moves_least, moves_win, filter_none, filter_some}
use Rattle.unit_choice.proofs.Stills.{lifted, lifted_still}

-- the cheapest of the modes and samples, as where no blocks move
abbrev pub coded_plan : Picture → Size → ℕ → CodingBlock → Plan
coded_plan now size effort block = stills.best_of (blocks.intra_plans size now block (modes_of effort)) (one_leaf (pcm_cost block.log2) (leaf_with block Pcm))

-- the test of the vectors that are tried
abbrev pub copies : Picture → Picture → Size → CodingBlock → Vector → Bool
copies last now size block v = is_copy_by last now size (leaf_with block Pcm) v

still_is : (now : Picture) (size : Size) (effort : ℕ) (block : CodingBlock) (b : Best) → coded_plan now size effort block ≡ one_leaf b.cost (leaf_with block b.kind)
    → still_plan now size effort block ≡ one_unit b.cost (still (leaf_with block b.kind))
still_is now size effort block b e = lifted_still now size effort block ∙ ap lifted e

-- a mode that costs less than a move
pub cheap_wins : (last now : Picture) (size : Size) (effort : ℕ) (block : CodingBlock) (b : Best) (cost : ℕ) (unit : MoveLeaf) → b.cost < 16
    → coded_plan now size effort block ≡ one_leaf b.cost (leaf_with block b.kind) → cost ≡ b.cost → unit ≡ still (leaf_with block b.kind)
    → unskipped_plan last now size effort block ≡ one_unit cost unit
cheap_wins last now size effort block b cost unit less e ec eu =
    let s : still_plan now size effort block ≡ one_unit b.cost (still (leaf_with block b.kind)) = still_is now size effort block b e in
    let cheap : (still_plan now size effort block).cost < 16 = rw s less in
    rw (ec, eu)
    (moves_cheap block (filter (copies last now size block) tried_vectors) (intra_plans now size effort block) (one_unit (pcm_cost block.log2) (unit_at block moves.Pcm)) cheap ∙ s)

-- the first vector that names the same block
pub move_wins : (last now : Picture) (size : Size) (effort : ℕ) (block : CodingBlock) (v : Vector) → find (copies last now size block) tried_vectors ≡ Some v
    → 16 ≤ (coded_plan now size effort block).cost → unskipped_plan last now size effort block ≡ one_unit 16 (unit_at block (moves.Move v))
move_wins last now size effort block v found dear =
    let t = filter_some (copies last now size block) tried_vectors v found in
    let more : 16 ≤ (still_plan now size effort block).cost = rw (lifted_still now size effort block) dear in
    ap (λ (vectors : List Vector). best_of (map (move block) vectors ++ intra_plans now size effort block) (one_unit (pcm_cost block.log2) (unit_at block moves.Pcm))) t.1
    ∙ moves_win block v t.0 (intra_plans now size effort block) (one_unit (pcm_cost block.log2) (unit_at block moves.Pcm)) more

-- no vector names the same block
pub still_wins : (last now : Picture) (size : Size) (effort : ℕ) (block : CodingBlock) (b : Best) (cost : ℕ) (unit : MoveLeaf)
    → find (copies last now size block) tried_vectors ≡ None
    → coded_plan now size effort block ≡ one_leaf b.cost (leaf_with block b.kind) → cost ≡ b.cost → unit ≡ still (leaf_with block b.kind)
    → unskipped_plan last now size effort block ≡ one_unit cost unit
still_wins last now size effort block b cost unit none e ec eu =
    rw (ec, eu)
    (ap (λ (vectors : List Vector). best_of (map (move block) vectors ++ intra_plans now size effort block) (one_unit (pcm_cost block.log2) (unit_at block moves.Pcm)))
    (filter_none (copies last now size block) tried_vectors none) ∙ still_is now size effort block b e)

-- ---- bounds

pcm_most : (log2 : ℕ) → 3 ≤ log2 → log2 ≤ 5 → pcm_cost log2 ≤ 24600
unfolding pcm_cost
pcm_most log2 low high = elim (cases_eq log2 3) [
  | inl three ↦ rw three (omega arith)
  | inr not_three ↦ elim (cases_eq log2 4) [
    | inl four ↦ rw four (omega arith)
    | inr not_four ↦ let five : log2 ≡ 5 = omega arith in rw five (omega arith)
  ]
]

pub coded_most : (now : Picture) (size : Size) (effort : ℕ) (block : CodingBlock) → 3 ≤ block.log2 → block.log2 ≤ 5 → (coded_plan now size effort block).cost ≤ 24600
coded_most now size effort block low high =
    let m : (coded_plan now size effort block).cost ≤ pcm_cost block.log2 = best_most (blocks.intra_plans size now block (modes_of effort)) (one_leaf (pcm_cost block.log2) (leaf_with block Pcm)) in
    let p : pcm_cost block.log2 ≤ 24600 = pcm_most block.log2 low high in
    omega arith

-- under a limit that all keep, there is a leaf
pub leaf_there : (r : Option Best) (block : CodingBlock) (plan : Plan) → plan.cost ≤ 24600 → blocks.IsLeafPlan r 4294967295 block plan → IsSome r
leaf_there None block plan few is = absurd (omega arith)
leaf_there (Some b) block plan few is = refl

-- ---- skips

coded_least : (now : Picture) (size : Size) (effort : ℕ) (block : CodingBlock) → 1 ≤ (coded_plan now size effort block).cost
unfolding pcm_cost
coded_least now size effort block =
    best_least 1 (blocks.intra_plans size now block (modes_of effort)) (one_leaf (pcm_cost block.log2) (leaf_with block Pcm))
    (all_dear size now block 1 (modes_of effort) (λ i h. let least = cost_least size now block (get_or (modes_of effort) i 0) in omega arith)) (omega arith)

pub skip_wins : (last now : Picture) (size : Size) (effort : ℕ) (before : List Moving) (block : CodingBlock)
    → is_copy_by last now size (leaf_with block Skip) (merge before block) ≡ true → unit_plan last now size effort before block ≡ one_unit 1 (unit_at block moves.Skip)
unfolding unit_plan
skip_wins last now size effort before block e =
    let one : 1 ≤ (still_plan now size effort block).cost = rw (lifted_still now size effort block) (coded_least now size effort block) in
    let others : 1 ≤ (unskipped_plan last now size effort block).cost =
    moves_least 1 block (filter (copies last now size block) tried_vectors) (intra_plans now size effort block) (one_unit (pcm_cost block.log2) (unit_at block moves.Pcm)) (omega arith) one in
    rw e
    (front (one_unit 1 (unit_at block moves.Skip)) (map (move block) (filter (copies last now size block) tried_vectors) ++ intra_plans now size effort block) (one_unit (pcm_cost block.log2) (unit_at block moves.Pcm))
    ∙ cheaper_first (one_unit 1 (unit_at block moves.Skip)) (unskipped_plan last now size effort block) others)

pub no_skip : (last now : Picture) (size : Size) (effort : ℕ) (before : List Moving) (block : CodingBlock)
    → is_copy_by last now size (leaf_with block Skip) (merge before block) ≡ false → unit_plan last now size effort before block ≡ unskipped_plan last now size effort block
unfolding unit_plan
no_skip last now size effort before block e = rw e refl
