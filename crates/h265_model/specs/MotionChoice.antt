-- Which units are coded where blocks may move: those of least cost. This rule is a choice of this project's own.
use Rattle.std.specs.Prelude.{ℕ, zero, suc, ◌+◌, ◌*◌, ◌^◌, Bool, not, ◌&&◌, List, [], ◌∷◌, ◌++◌, map, flat_map, nat_le, if◌then◌else◌, pos, neg_ℤ}
use Rattle.std.specs.List.{filter, list_all}
use Rattle.h265_model.specs.declared.leaf.Kind.TheVariants.{Intra}
use Rattle.h265_model.specs.declared.leaf.Leaf.{Leaf}
use Rattle.h265_model.specs.declared.block.CodingBlock.{CodingBlock}
use Rattle.h265_model.specs.declared.moves.Vector.{Vector}
use Rattle.h265_model.specs.declared.moves.MoveKind.{MoveKind}
use Rattle.h265_model.specs.declared.moves.MoveKind.TheVariants as moves
use Rattle.h265_model.specs.declared.moves.MoveLeaf.{MoveLeaf}
use Rattle.h265_model.specs.Plain.{Size, Picture, below, block_at, leaf_with, ctu_x, ctu_y}
use Rattle.h265_model.specs.Predict.{is_inside}
use Rattle.h265_model.specs.Tree.{samples_in, is_whole}
use Rattle.h265_model.specs.Choice.{intra_cost, pcm_cost, same, modes_of}
use Rattle.h265_model.specs.Motion.{Moving, vector, no_motion, merge, has_source, leaf_as_coded, coded_after}
use Rattle.h265_model.specs.Rebuild.{moved_samples}

-- the choice of moves, a rule of this project's own: units and their cost
pub record MovePlan : Type 0 where
  pub cost : ℕ
  pub units : List MoveLeaf

-- the choice of moves, this project's own: of two plans the cheaper, the first where they are alike
abbrev pub cheaper : MovePlan → MovePlan → MovePlan
cheaper first second = if nat_le first.cost second.cost then first else second

-- the choice of moves, this project's own: the first of least cost
abbrev pub cheapest : MovePlan → List MovePlan → MovePlan
cheapest best [] = best
cheapest best (plan ∷ plans) = cheapest (cheaper best plan) plans

-- the choice of moves, this project's own: the first of least cost of these and a last one
abbrev pub best_of : List MovePlan → MovePlan → MovePlan
best_of [] last = last
best_of (plan ∷ plans) last = cheapest plan (plans ++ last ∷ [])

-- a unit of this block and kind (plain)
abbrev pub unit_at : CodingBlock → MoveKind → MoveLeaf
unit_at block kind = record { block = block; kind = kind }

-- the choice of moves, this project's own: the plan of one unit
abbrev pub one_unit : ℕ → MoveLeaf → MovePlan
one_unit cost unit = record { cost = cost; units = unit ∷ [] }

-- the choice of moves, this project's own: up, down, left and right by this distance
abbrev pub vectors_of : ℕ → List Vector
vectors_of d = vector (pos 0) (neg_ℤ (pos d)) ∷ vector (pos 0) (pos d) ∷ vector (neg_ℤ (pos d)) (pos 0) ∷ vector (pos d) (pos 0) ∷ []

-- the choice of moves, this project's own: the vectors that are tried, in order: none, and then up, down, left and
-- right by each distance
unfoldable pub tried_vectors : List Vector
tried_vectors = no_motion ∷ flat_map (λ d. vectors_of (suc d)) (below 64)

-- the choice of moves, this project's own: the block equals the block of the previous picture that the vector names,
-- wholly in the coded picture
unfoldable pub is_copy_by : Picture → Picture → Size → Leaf → Vector → Bool
is_copy_by prev now size leaf v =
    has_source size leaf.block v
    && list_all (λ component. same (moved_samples prev leaf v component) (samples_in now leaf component)) (below 3)

-- the choice of moves, this project's own: a skip, where the merge vector names the same block
abbrev pub skip_plans : Picture → Picture → Size → List Moving → MoveLeaf → List MovePlan
skip_plans prev now size before unit =
    if is_copy_by prev now size (leaf_as_coded unit) (merge before unit.block) then one_unit 1 unit ∷ [] else []

-- the choice of moves, this project's own: a moved unit by each vector that is tried and names the same block
abbrev pub move_plans : Picture → Picture → Size → CodingBlock → List MovePlan
move_plans prev now size block =
    map (λ v. one_unit 16 (unit_at block (moves.Move v)))
    (filter (λ v. is_copy_by prev now size (leaf_as_coded (unit_at block (moves.Move v))) v) tried_vectors)

-- the choice of moves, this project's own: the modes that are tried by this effort
abbrev pub intra_plans : Picture → Size → ℕ → CodingBlock → List MovePlan
intra_plans now size effort block =
    map (λ mode. one_unit (intra_cost size now (leaf_with block (Intra mode))) (unit_at block (moves.Intra mode))) (modes_of effort)

-- the choice of moves, this project's own: the cheapest unit: a skip first, then the moves in order, then the modes
-- in order, then samples
unfoldable pub unit_plan : Picture → Picture → Size → ℕ → List Moving → CodingBlock → MovePlan
unit_plan prev now size effort before block =
    best_of
    (skip_plans prev now size before (unit_at block moves.Skip) ++ move_plans prev now size block ++ intra_plans now size effort block)
    (one_unit (pcm_cost block.log2) (unit_at block moves.Pcm))

-- the choice of moves, this project's own: the plan of a block outside the coded picture
abbrev pub no_units : MovePlan
no_units = record { cost = 0; units = [] }

-- the choice of moves, this project's own: one more part, which knows the units of the parts before it
abbrev pub and_part : MovePlan → (List Moving → MovePlan) → List Moving → MovePlan
and_part first go before =
    let second : MovePlan = go (coded_after before first.units) in
    record { cost = first.cost + second.cost; units = first.units ++ second.units }

-- the choice of moves, this project's own: a block split in four, which costs one more than its parts
abbrev pub split_plan : (ℕ → ℕ → List Moving → MovePlan) → ℕ → ℕ → ℕ → List Moving → MovePlan
split_plan go half x y before =
    let children : MovePlan = and_part (and_part (and_part (go x y before) (go (x + half) y) before) (go x (y + half)) before) (go (x + half) (y + half)) before in
    record { cost = 1 + children.cost; units = children.units }

-- the choice of moves, this project's own: the block of side 2 ^ (3 + depth) at (x, y), after these units. A unit
-- wins a tie against a split
abbrev pub plan : Picture → Picture → Size → ℕ → ℕ → ℕ → ℕ → List Moving → MovePlan
plan prev now size effort zero x y before =
    if is_inside size x y then unit_plan prev now size effort before (block_at x y 3) else no_units
plan prev now size effort (suc depth) x y before =
    let half : ℕ = 2 ^ (3 + depth) in
    let split : MovePlan = split_plan (plan prev now size effort depth) half x y before in
    let best : MovePlan = cheaper (unit_plan prev now size effort before (block_at x y (4 + depth))) split in
    if not (is_inside size x y) then no_units
    else if not (is_whole size (2 * half) x y) then split
    else best

-- the choice of moves, this project's own: the units of a coding tree unit of this picture after the previous one,
-- where these units were coded before
unfoldable pub moved_choice : Picture → Picture → Size → ℕ → List Moving → ℕ → List MoveLeaf
moved_choice prev now size effort before ctu = (plan prev now size effort 2 (ctu_x size ctu) (ctu_y size ctu) before).units

-- the choice of moves, this project's own: the units of n coding tree units from this one on
unfoldable pub moved_choices : Picture → Picture → Size → ℕ → ℕ → List Moving → ℕ → List (List MoveLeaf)
moved_choices prev now size effort zero before ctu = []
moved_choices prev now size effort (suc n) before ctu =
    let units : List MoveLeaf = moved_choice prev now size effort before ctu in
    units ∷ moved_choices prev now size effort n (coded_after before units) (suc ctu)
