-- What plans cost at least, and which of two is the cheaper.
use Rattle.std.proofs.Common.{◌≡◌, refl, ap, ◌∙◌, ℕ, zero, suc, ◌+◌, ◌*◌, ◌^◌, ◌<◌, ◌≤◌, Bool, true, false, cond, not, List, [], ◌∷◌, ◌++◌, map, arith, inl, inr}
use Rattle.std.specs.List.{AllByRecursion, filter}
use Rattle.std.proofs.lemmas.Bool.{le-leb, lt-leb, cases_lt}
use Rattle.h265_model.proofs.ListParts.{all_append}
use Rattle.h265_model.specs.declared.block.CodingBlock.{CodingBlock}
use Rattle.h265_model.specs.declared.leaf.Kind.TheVariants.{Intra}
use Rattle.h265_model.specs.declared.moves.Vector.{Vector}
use Rattle.h265_model.specs.declared.moves.MoveKind.TheVariants as moves
use Rattle.h265_model.specs.Plain.{Size, Picture, leaf_with, block_at}
use Rattle.h265_model.specs.Predict.{is_inside}
use Rattle.h265_model.specs.Tree.{is_whole}
use Rattle.h265_model.specs.Choice.{intra_cost, pcm_cost, modes_of}
use Rattle.h265_model.specs.Motion.{Moving, leaf_as_coded, merge, coded_after}
use Rattle.h265_model.specs.MotionChoice.{MovePlan, cheaper, cheapest, best_of, one_unit, unit_at, skip_plans, move_plans, intra_plans, unit_plan, no_units, split_plan, plan, is_copy_by, tried_vectors}

pub cheaper_first : (a b : MovePlan) → a.cost ≤ b.cost → cheaper a b ≡ a
cheaper_first a b h = rw (le-leb a.cost b.cost h) refl

pub cheaper_second : (a b : MovePlan) → b.cost < a.cost → cheaper a b ≡ b
cheaper_second a b h = rw (lt-leb a.cost b.cost h) refl

pub cheaper_least : (k : ℕ) (a b : MovePlan) → k ≤ a.cost → k ≤ b.cost → k ≤ (cheaper a b).cost
cheaper_least k a b ha hb = elim (cases_lt b.cost a.cost) [
  | inl less ↦ rw (cheaper_second a b less) hb
  | inr more ↦ rw (cheaper_first a b more) ha
]

cheapest_least : (k : ℕ) (best : MovePlan) (plans : List MovePlan) → k ≤ best.cost → AllByRecursion (λ p. k ≤ p.cost) plans → k ≤ (cheapest best plans).cost
cheapest_least k best [] h all = h
cheapest_least k best (p ∷ plans) h all = cheapest_least k (cheaper best p) plans (cheaper_least k best p h all.0) all.1

best_least : (k : ℕ) (plans : List MovePlan) (last : MovePlan) → AllByRecursion (λ p. k ≤ p.cost) plans → k ≤ last.cost → k ≤ (best_of plans last).cost
best_least k [] last all h = h
best_least k (p ∷ plans) last all h = cheapest_least k p (plans ++ last ∷ []) all.0 (all_append (λ q. k ≤ q.cost) plans (last ∷ []) all.1 (h, tt))

-- one that none is cheaper than stays
cheapest_keep : (best : MovePlan) (plans : List MovePlan) → AllByRecursion (λ p. best.cost ≤ p.cost) plans → cheapest best plans ≡ best
cheapest_keep best [] all = refl
cheapest_keep best (p ∷ plans) all = rw (cheaper_first best p all.0) (cheapest_keep best plans all.1)

best_first : (first : MovePlan) (plans : List MovePlan) (last : MovePlan) → AllByRecursion (λ p. first.cost ≤ p.cost) plans → first.cost ≤ last.cost → best_of (first ∷ plans) last ≡ first
best_first first plans last all h = cheapest_keep first (plans ++ last ∷ []) (all_append (λ q. first.cost ≤ q.cost) plans (last ∷ []) all (h, tt))

mode_least : (size : Size) (now : Picture) (block : CodingBlock) (mode : ℕ) → 1 ≤ intra_cost size now (leaf_with block (Intra mode))
unfolding intra_cost
mode_least size now block mode = omega arith

-- at most what the last costs
cheapest_most : (best : MovePlan) (plans : List MovePlan) (last : MovePlan) → (cheapest best (plans ++ last ∷ [])).cost ≤ last.cost
cheapest_most best [] last = elim (cases_lt last.cost best.cost) [
  | inl less ↦ let e : (cheaper best last).cost ≡ last.cost = ap (λ (p : MovePlan). p.cost) (cheaper_second best last less) in omega arith
  | inr more ↦ let e : (cheaper best last).cost ≡ best.cost = ap (λ (p : MovePlan). p.cost) (cheaper_first best last more) in omega arith
]
cheapest_most best (p ∷ plans) last = cheapest_most (cheaper best p) plans last

best_most : (plans : List MovePlan) (last : MovePlan) → (best_of plans last).cost ≤ last.cost
best_most [] last = omega arith
best_most (p ∷ plans) last = cheapest_most p plans last

cheaper_most : (a b : MovePlan) (k : ℕ) → a.cost ≤ k → (cheaper a b).cost ≤ k
cheaper_most a b k h = elim (cases_lt b.cost a.cost) [
  | inl less ↦ rw (cheaper_second a b less) (omega arith)
  | inr more ↦ rw (cheaper_first a b more) h
]

pcm_8 : pcm_cost 3 ≤ 1560
unfolding pcm_cost
pcm_8 = omega arith

pcm_16 : pcm_cost (4 + 0) ≤ 6241
unfolding pcm_cost
pcm_16 = omega arith

pcm_32 : pcm_cost (4 + 1) ≤ 24965
unfolding pcm_cost
pcm_32 = omega arith

module _ (prev now : Picture) (size : Size) (effort : ℕ) where
  -- a unit costs at least 1
  abbrev AtLeastOne : List MovePlan → Type 0
  AtLeastOne plans = AllByRecursion (λ (p : MovePlan). 1 ≤ p.cost) plans

  skips_least : (before : List Moving) (block : CodingBlock) → AtLeastOne (skip_plans prev now size before (unit_at block moves.Skip))
  skips_least before block = go (is_copy_by prev now size (leaf_as_coded (unit_at block moves.Skip)) (merge before block))
    where
      go : (t : Bool) → AtLeastOne (cond t (one_unit 1 (unit_at block moves.Skip) ∷ []) [])
      go true = (omega arith, tt)
      go false = tt

  vectors_least : (block : CodingBlock) (vs : List Vector) → AtLeastOne (map (λ v. one_unit 16 (unit_at block (moves.Move v))) vs)
  vectors_least block [] = tt
  vectors_least block (v ∷ vs) = (omega arith, vectors_least block vs)

  moves_least : (block : CodingBlock) → AtLeastOne (move_plans prev now size block)
  moves_least block = vectors_least block (filter (λ v. is_copy_by prev now size (leaf_as_coded (unit_at block (moves.Move v))) v) tried_vectors)

  modes_least : (block : CodingBlock) (modes : List ℕ) → AtLeastOne (map (λ mode. one_unit (intra_cost size now (leaf_with block (Intra mode))) (unit_at block (moves.Intra mode))) modes)
  modes_least block [] = tt
  modes_least block (mode ∷ modes) = (mode_least size now block mode, modes_least block modes)

  others_least : (block : CodingBlock) → AtLeastOne (move_plans prev now size block ++ intra_plans now size effort block)
  others_least block = all_append (λ (p : MovePlan). 1 ≤ p.cost) (move_plans prev now size block) (intra_plans now size effort block) (moves_least block) (modes_least block (modes_of effort))

  pub unit_least : (before : List Moving) (block : CodingBlock) → 1 ≤ (unit_plan prev now size effort before block).cost
  unfolding unit_plan pcm_cost
  unit_least before block =
      best_least 1 _ (one_unit (pcm_cost block.log2) (unit_at block moves.Pcm))
      (all_append (λ (p : MovePlan). 1 ≤ p.cost) (skip_plans prev now size before (unit_at block moves.Skip) ++ move_plans prev now size block) (intra_plans now size effort block)
      (all_append (λ (p : MovePlan). 1 ≤ p.cost) (skip_plans prev now size before (unit_at block moves.Skip)) (move_plans prev now size block) (skips_least before block) (moves_least block))
      (modes_least block (modes_of effort)))
      (omega arith)

  -- a block in the coded picture costs at least 1
  pub plan_least : (depth x y : ℕ) (before : List Moving) → is_inside size x y ≡ true → 1 ≤ (plan prev now size effort depth x y before).cost
  plan_least zero x y before inside = rw inside (unit_least before (block_at x y 3))
  plan_least (suc depth) x y before inside = rw inside (go (is_whole size (2 * 2 ^ (3 + depth)) x y))
    where
      one : MovePlan
      one = unit_plan prev now size effort before (block_at x y (4 + depth))

      split : MovePlan
      split = split_plan (plan prev now size effort depth) (2 ^ (3 + depth)) x y before

      some : 1 ≤ split.cost
      some = omega arith

      go : (w : Bool) → 1 ≤ (cond (not w) split (cheaper one split)).cost
      go true = cheaper_least 1 one split (unit_least before (block_at x y (4 + depth))) some
      go false = some

  -- a skip wins
  pub skip_first : (before : List Moving) (block : CodingBlock) → is_copy_by prev now size (leaf_as_coded (unit_at block moves.Skip)) (merge before block) ≡ true
      → unit_plan prev now size effort before block ≡ one_unit 1 (unit_at block moves.Skip)
  unfolding unit_plan pcm_cost
  skip_first before block e = rw e (best_first (one_unit 1 (unit_at block moves.Skip)) (move_plans prev now size block ++ intra_plans now size effort block) (one_unit (pcm_cost block.log2) (unit_at block moves.Pcm)) (others_least block) (omega arith))

  -- one unit wins
  pub unit_first : (d x y : ℕ) (before : List Moving) (unit : MovePlan) → is_inside size x y ≡ true → is_whole size (2 * 2 ^ (3 + d)) x y ≡ true
      → unit_plan prev now size effort before (block_at x y (4 + d)) ≡ unit → unit.cost ≤ 1 → plan prev now size effort (suc d) x y before ≡ unit
  unit_first d x y before unit inside whole e low =
      let split : MovePlan = split_plan (plan prev now size effort d) (2 ^ (3 + d)) x y before in
      rw (inside, whole) (ap (λ (p : MovePlan). cheaper p split) e ∙ cheaper_first unit split (omega arith))

  -- ---- what a plan costs at most

  unit_most : (before : List Moving) (block : CodingBlock) → (unit_plan prev now size effort before block).cost ≤ pcm_cost block.log2
  unfolding unit_plan
  unit_most before block = best_most (skip_plans prev now size before (unit_at block moves.Skip) ++ move_plans prev now size block ++ intra_plans now size effort block) (one_unit (pcm_cost block.log2) (unit_at block moves.Pcm))

  abbrev IsMost : ℕ → ℕ → Type 0
  IsMost depth most = (x y : ℕ) (before : List Moving) → (plan prev now size effort depth x y before).cost ≤ most

  most_8 : IsMost 0 1560
  most_8 x y before = go (is_inside size x y)
    where
      go : (i : Bool) → (cond i (unit_plan prev now size effort before (block_at x y 3)) no_units).cost ≤ 1560
      go true = let l = unit_most before (block_at x y 3) in let p = pcm_8 in omega arith
      go false = omega arith

  most_step : (d low high : ℕ) → pcm_cost (4 + d) ≤ high → 1 + 4 * low ≤ high → IsMost d low → IsMost (suc d) high
  most_step d low high pcm four each x y before = go (is_inside size x y) (is_whole size (2 * 2 ^ (3 + d)) x y)
    where
      n : ℕ
      n = 2 ^ (3 + d)

      one : MovePlan
      one = unit_plan prev now size effort before (block_at x y (4 + d))

      split : MovePlan
      split = split_plan (plan prev now size effort d) n x y before

      a : MovePlan
      a = plan prev now size effort d x y before

      b : MovePlan
      b = plan prev now size effort d (x + n) y (coded_after before a.units)

      c : MovePlan
      c = plan prev now size effort d x (y + n) (coded_after before (a.units ++ b.units))

      quarters : split.cost ≤ high
      quarters =
          let ha = each x y before in
          let hb = each (x + n) y (coded_after before a.units) in
          let hc = each x (y + n) (coded_after before (a.units ++ b.units)) in
          let hd = each (x + n) (y + n) (coded_after before ((a.units ++ b.units) ++ c.units)) in
          omega arith

      whole : (cheaper one split).cost ≤ high
      whole =
          let l : one.cost ≤ high = (let m = unit_most before (block_at x y (4 + d)) in omega arith) in
          cheaper_most one split high l

      go : (i w : Bool) → (cond (not i) no_units (cond (not w) split (cheaper one split))).cost ≤ high
      go false w = omega arith
      go true false = quarters
      go true true = whole

  pub plan_most : IsMost 2 24965
  plan_most = most_step 1 6241 24965 pcm_32 (omega arith) (most_step 0 1560 6241 pcm_16 (omega arith) most_8)
