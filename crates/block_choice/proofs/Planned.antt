-- The plan of a block: one coding unit, or those of its quarters.
use Rattle.std.proofs.Common.{◌≡◌, refl, ap, ◌∙◌, ℕ, zero, suc, ◌+◌, ◌*◌, ◌-◌, ◌/◌, ◌%◌, ◌^◌, ◌<◌, ◌≤◌, Bool, true, false, cond, not, List, ◌++◌, arith, pow-suc, inl, inr}
use Rattle.std.specs.Prelude.{Option, Some, None}
use Rattle.std.proofs.lemmas.Bool.{false≢true, and_parts, ltb-true, cases_lt}
use Rattle.h265_model.specs.declared.block.CodingBlock.{CodingBlock}
use Rattle.h265_model.specs.declared.leaf.Kind.TheVariants.{Pcm, Skip}
use Rattle.h265_model.specs.declared.leaf.Leaf.{Leaf}
use Rattle.h265_model.specs.Plain.{block_at, Size, Picture, coded, leaf_with}
use Rattle.h265_model.specs.Predict.{is_inside}
use Rattle.h265_model.specs.Tree.{is_whole}
use Rattle.h265_model.specs.Choice.{Plan, cheaper, one_leaf, leaf_plan, pcm_cost, plan, split_plan, no_leaves, both, skips, modes_of}
use Rattle.leaf_cost.specs.declared.best.Best.{Best}
use Rattle.block_choice.specs.declared.leaf.Task.{Task}
use Rattle.block_choice.specs.Plans.{IsWholeLeaf, IsPlanned, IsPlace, intra_plans}
use Rattle.block_choice.proofs.Cheapest.{cheaper_first, cheaper_second, cheaper_least, best_most}
use Rattle.block_choice.proofs.OneLeaf.{whole_is}

module _ (prev : Option Picture) (now : Picture) (size : Size) (effort : ℕ) where
  abbrev pub split_of : ℕ → ℕ → ℕ → Plan
  split_of depth x y = split_plan (plan prev now size effort depth) (2 ^ (3 + depth)) x y

  pub plan_outside : (depth x y : ℕ) → is_inside size x y ≡ false → plan prev now size effort depth x y ≡ no_leaves
  plan_outside zero x y e = rw e refl
  plan_outside (suc depth) x y e = rw e refl

  turned : (b : Bool) (s l : Plan) → cond (not b) s l ≡ cond b l s
  turned true s l = refl
  turned false s l = refl

  step : (d x y : ℕ) → is_inside size x y ≡ true
      → plan prev now size effort (suc d) x y ≡ cond (is_whole size (2 ^ (3 + suc d)) x y) (cheaper (leaf_plan prev now size effort (block_at x y (3 + suc d))) (split_of d x y)) (split_of d x y)
  step d x y inside =
      let n : 3 + suc d ≡ suc (3 + d) = omega arith in
      let side : 2 ^ (3 + suc d) ≡ 2 * 2 ^ (3 + d) = ap (λ (k : ℕ). 2 ^ k) n ∙ (pow-suc 2 (3 + d) ∙ omega arith) in
      let log2 : 3 + suc d ≡ 4 + d = omega arith in
      rw (side, log2, inside) (turned (is_whole size (2 * 2 ^ (3 + d)) x y) (split_of d x y) _)

  whole_8 : (x y : ℕ) → is_inside size x y ≡ true → x % 8 ≡ 0 → y % 8 ≡ 0 → is_whole size 8 x y ≡ true
  whole_8 x y inside wx wy =
      let p = and_parts _ _ inside in
      let hx : x < coded size.w = ltb-true x (coded size.w) p.0 in
      let hy : y < coded size.h = ltb-true y (coded size.h) p.1 in
      whole_is size x y 8 (omega arith) (omega arith)

  -- what is to be undercut next
  abbrev pub bound_of : Option Best → ℕ → ℕ
  bound_of None limit = limit
  bound_of (Some b) limit = b.cost

  wins_at : (r : Option Best) (w : Bool) (limit : ℕ) (block : CodingBlock) (p s : Plan) → IsWholeLeaf r limit block w p → s.cost < bound_of r limit → (cond w (cheaper p s) s ≡ s) × (s.cost < limit)
  wins_at None true limit block p s is less = let m : limit ≤ p.cost = is refl in (cheaper_second p s (omega arith), less)
  wins_at None false limit block p s is less = (refl, less)
  wins_at (Some b) true limit block p s is less =
      let e : p.cost ≡ b.cost = ap (λ (q : Plan). q.cost) is.2 in
      let m : b.cost < limit = is.1 in
      (cheaper_second p s (omega arith), omega arith)
  wins_at (Some b) false limit block p s is less = absurd (false≢true is.0)

  none_at : (w : Bool) (limit : ℕ) (p s : Plan) → (w ≡ true → limit ≤ p.cost) → limit ≤ s.cost → limit ≤ (cond w (cheaper p s) s).cost
  none_at true limit p s h m = cheaper_least limit p s (h refl) m
  none_at false limit p s h m = m

  leaf_at : (b : Best) (w : Bool) (limit : ℕ) (block : CodingBlock) (p s : Plan) → IsWholeLeaf (Some b) limit block w p → b.cost ≤ s.cost → cond w (cheaper p s) s ≡ one_leaf b.cost (leaf_with block b.kind)
  leaf_at b true limit block p s is more = let e : p.cost ≡ b.cost = ap (λ (q : Plan). q.cost) is.2 in cheaper_first p s (omega arith) ∙ is.2
  leaf_at b false limit block p s is more = absurd (false≢true is.0)

  -- the quarters win
  pub split_planned : (r : Option Best) (limit depth x y cost : ℕ) (old new : List Leaf) → is_inside size x y ≡ true → 0 < depth
      → IsWholeLeaf r limit (block_at x y (3 + depth)) (is_whole size (2 ^ (3 + depth)) x y) (leaf_plan prev now size effort (block_at x y (3 + depth)))
      → IsPlanned (Some cost) (bound_of r limit) (split_of (depth - 1) x y) old new → IsPlanned (Some cost) limit (plan prev now size effort depth x y) old new
  split_planned r limit zero x y cost old new inside some is planned = absurd (omega arith)
  split_planned r limit (suc d) x y cost old new inside some is planned =
      let back : suc d - 1 ≡ d = omega arith in
      let planned' : IsPlanned (Some cost) (bound_of r limit) (split_of d x y) old new = rw back at planned in
      let less : (split_of d x y).cost < bound_of r limit = rw planned'.0 at planned'.1 in
      let w = wins_at r (is_whole size (2 ^ (3 + suc d)) x y) limit (block_at x y (3 + suc d)) (leaf_plan prev now size effort (block_at x y (3 + suc d))) (split_of d x y) is less in
      let p : plan prev now size effort (suc d) x y ≡ split_of d x y = step d x y inside ∙ w.0 in
      let low : (split_of d x y).cost < limit = w.1 in
      rw p (planned'.0, rw planned'.0 low, planned'.2)

  -- nothing is below the limit
  pub none_planned : (limit depth x y : ℕ) → is_inside size x y ≡ true → x % 8 ≡ 0 → y % 8 ≡ 0
      → IsWholeLeaf None limit (block_at x y (3 + depth)) (is_whole size (2 ^ (3 + depth)) x y) (leaf_plan prev now size effort (block_at x y (3 + depth)))
      → (0 < depth → limit ≤ (split_of (depth - 1) x y).cost) → limit ≤ (plan prev now size effort depth x y).cost
  none_planned limit zero x y inside wx wy is splits = rw inside (is (whole_8 x y inside wx wy))
  none_planned limit (suc d) x y inside wx wy is splits =
      let back : suc d - 1 ≡ d = omega arith in
      let s : limit ≤ (split_of d x y).cost = rw back at (splits (omega arith)) in
      rw (step d x y inside) (none_at (is_whole size (2 ^ (3 + suc d)) x y) limit (leaf_plan prev now size effort (block_at x y (3 + suc d))) (split_of d x y) is s)

  -- one coding unit wins
  pub leaf_planned : (b : Best) (limit depth x y : ℕ) → is_inside size x y ≡ true
      → IsWholeLeaf (Some b) limit (block_at x y (3 + depth)) (is_whole size (2 ^ (3 + depth)) x y) (leaf_plan prev now size effort (block_at x y (3 + depth)))
      → (0 < depth → b.cost ≤ (split_of (depth - 1) x y).cost) → plan prev now size effort depth x y ≡ one_leaf b.cost (leaf_with (block_at x y (3 + depth)) b.kind)
  leaf_planned b limit zero x y inside is splits = rw inside is.2
  leaf_planned b limit (suc d) x y inside is splits =
      let back : suc d - 1 ≡ d = omega arith in
      let s : b.cost ≤ (split_of d x y).cost = rw back at (splits (omega arith)) in
      step d x y inside ∙ leaf_at b (is_whole size (2 ^ (3 + suc d)) x y) limit (block_at x y (3 + suc d)) (leaf_plan prev now size effort (block_at x y (3 + suc d))) (split_of d x y) is s

  -- ---- the quarters, one after another

  abbrev pub child : ℕ → ℕ → ℕ → ℕ → Plan
  child depth x y q = plan prev now size effort depth (x + q % 2 * 2 ^ (3 + depth)) (y + q / 2 * 2 ^ (3 + depth))

  abbrev pub parts : ℕ → ℕ → ℕ → ℕ → Plan
  parts depth x y zero = no_leaves
  parts depth x y (suc q) = both (parts depth x y q) (child depth x y q)

  pub parts_next : (depth x y q k : ℕ) → k ≡ q + 1 → parts depth x y k ≡ both (parts depth x y q) (child depth x y q)
  parts_next depth x y q k e = let n : k ≡ suc q = omega arith in rw n refl

  pub parts_most : (depth x y q k : ℕ) → (parts depth x y q).cost ≤ (parts depth x y (q + k)).cost
  parts_most depth x y q zero = let e : q + 0 ≡ q = omega arith in rw e (omega arith)
  parts_most depth x y q (suc k) =
      let n : q + suc k ≡ suc (q + k) = omega arith in
      let h = parts_most depth x y q k in
      rw n (omega arith)

  pub parts_all : (depth x y : ℕ) → split_of depth x y ≡ record { cost = 1 + (parts depth x y 4).cost; leaves = (parts depth x y 4).leaves }
  parts_all depth x y =
      let x0 : x + 0 * 2 ^ (3 + depth) ≡ x = omega arith in
      let y0 : y + 0 * 2 ^ (3 + depth) ≡ y = omega arith in
      let x1 : x + 1 * 2 ^ (3 + depth) ≡ x + 2 ^ (3 + depth) = omega arith in
      let y1 : y + 1 * 2 ^ (3 + depth) ≡ y + 2 ^ (3 + depth) = omega arith in
      let z : 0 + (plan prev now size effort depth x y).cost ≡ (plan prev now size effort depth x y).cost = omega arith in
      rw (x0, y0, x1, y1, z) refl

pub four_some : (d : ℕ) → 1 ≤ 4 ^ d
four_some zero = omega arith
four_some (suc d) = let h = four_some d in let e = pow-suc 4 d in omega arith

-- a quarter of a block in the coding tree unit is one, too
pub quarter_place : (t : Task) (d x y q half : ℕ) → d ≤ 1 → q < 4 → half ≡ 2 ^ (3 + d) → IsPlace t (block_at x y (3 + (d + 1))) → IsPlace t (block_at (x + q % 2 * half) (y + q / 2 * half) (3 + d))
quarter_place t zero x y q half most less e place =
    let right : x + 16 ≤ t.x + 32 = place.right in
    let bottom : y + 16 ≤ t.y + 32 = place.bottom in
    let whole_x : x % 16 ≡ 0 = place.whole_x in
    let whole_y : y % 16 ≡ 0 = place.whole_y in
    let left : t.x ≤ x = place.left in
    let top : t.y ≤ y = place.top in
    let eight : half ≡ 8 = e in
    rw eight (record { left = omega arith; right = omega arith; top = omega arith; bottom = omega arith; whole_x = omega arith; whole_y = omega arith })
quarter_place t (suc zero) x y q half most less e place =
    let right : x + 32 ≤ t.x + 32 = place.right in
    let bottom : y + 32 ≤ t.y + 32 = place.bottom in
    let whole_x : x % 32 ≡ 0 = place.whole_x in
    let whole_y : y % 32 ≡ 0 = place.whole_y in
    let left : t.x ≤ x = place.left in
    let top : t.y ≤ y = place.top in
    let sixteen : half ≡ 16 = e in
    rw sixteen (record { left = omega arith; right = omega arith; top = omega arith; bottom = omega arith; whole_x = omega arith; whole_y = omega arith })
quarter_place t (suc (suc d)) x y q half most less e place = absurd (omega arith)

-- ---- what a plan costs at most

leaf_most : (prev : Option Picture) (now : Picture) (size : Size) (effort : ℕ) (block : CodingBlock) → (leaf_plan prev now size effort block).cost ≤ pcm_cost block.log2
unfolding leaf_plan
leaf_most prev now size effort block = best_most (skips prev now (leaf_with block Skip) ++ intra_plans size now block (modes_of effort)) (one_leaf (pcm_cost block.log2) (leaf_with block Pcm))

cheaper_most : (a b : Plan) (k : ℕ) → a.cost ≤ k → (cheaper a b).cost ≤ k
cheaper_most a b k h = elim (cases_lt b.cost a.cost) [
  | inl less ↦ rw (cheaper_second a b less) (omega arith)
  | inr more ↦ rw (cheaper_first a b more) h
]

most_step : (prev : Option Picture) (now : Picture) (size : Size) (effort d low high : ℕ) → pcm_cost (4 + d) ≤ high → 1 + 4 * low ≤ high
    → ((x y : ℕ) → (plan prev now size effort d x y).cost ≤ low) → (x y : ℕ) → (plan prev now size effort (suc d) x y).cost ≤ high
most_step prev now size effort d low high pcm four each x y = go (is_inside size x y) (is_whole size (2 * 2 ^ (3 + d)) x y)
  where
    half : ℕ
    half = 2 ^ (3 + d)

    quarters : (split_plan (plan prev now size effort d) (2 ^ (3 + d)) x y).cost ≤ high
    quarters =
        let a = each x y in
        let b = each (x + 2 ^ (3 + d)) y in
        let c = each x (y + 2 ^ (3 + d)) in
        let e = each (x + 2 ^ (3 + d)) (y + 2 ^ (3 + d)) in
        omega arith

    one : (cheaper (leaf_plan prev now size effort (block_at x y (4 + d))) (split_plan (plan prev now size effort d) (2 ^ (3 + d)) x y)).cost ≤ high
    one =
        let l : (leaf_plan prev now size effort (block_at x y (4 + d))).cost ≤ high = (let m = leaf_most prev now size effort (block_at x y (4 + d)) in omega arith) in
        cheaper_most (leaf_plan prev now size effort (block_at x y (4 + d))) (split_plan (plan prev now size effort d) (2 ^ (3 + d)) x y) high l

    go : (i w : Bool) → (cond (not i) no_leaves (cond (not w) (split_plan (plan prev now size effort d) (2 ^ (3 + d)) x y)
        (cheaper (leaf_plan prev now size effort (block_at x y (4 + d))) (split_plan (plan prev now size effort d) (2 ^ (3 + d)) x y)))).cost ≤ high
    go false w = omega arith
    go true false = quarters
    go true true = one

most_8 : (prev : Option Picture) (now : Picture) (size : Size) (effort x y : ℕ) → (plan prev now size effort 0 x y).cost ≤ 1560
unfolding pcm_cost
most_8 prev now size effort x y = go (is_inside size x y)
  where
    go : (i : Bool) → (cond i (leaf_plan prev now size effort (block_at x y 3)) no_leaves).cost ≤ 1560
    go true = let l = leaf_most prev now size effort (block_at x y 3) in omega arith
    go false = omega arith

pcm_16 : pcm_cost (4 + 0) ≤ 6241
unfolding pcm_cost
pcm_16 = omega arith

pcm_32 : pcm_cost (4 + 1) ≤ 24965
unfolding pcm_cost
pcm_32 = omega arith

pub plan_most : (prev : Option Picture) (now : Picture) (size : Size) (effort x y : ℕ) → (plan prev now size effort 2 x y).cost ≤ 24965
plan_most prev now size effort x y =
    most_step prev now size effort 1 6241 24965 pcm_32 (omega arith) (most_step prev now size effort 0 1560 6241 pcm_16 (omega arith) (most_8 prev now size effort)) x y
