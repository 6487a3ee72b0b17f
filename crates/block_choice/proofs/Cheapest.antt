-- The cheapest of some plans.
use Rattle.std.proofs.Common.{◌≡◌, refl, sym, ap, ◌∙◌, ℕ, zero, suc, ◌<◌, ◌≤◌, List, [], ◌∷◌, ◌++◌, length, get_or, arith, inl, inr}
use Rattle.std.specs.List.{AllByRecursion}
use Rattle.std.proofs.lemmas.Bool.{le-leb, lt-leb, cases_lt}
use Rattle.h265_model.proofs.ListParts.{all_append}
use Rattle.h265_model.specs.declared.block.CodingBlock.{CodingBlock}
use Rattle.h265_model.specs.declared.leaf.Kind.TheVariants.{Intra}
use Rattle.h265_model.specs.Plain.{Size, Picture, leaf_with}
use Rattle.h265_model.specs.Choice.{Plan, cheaper, cheapest, best_of, one_leaf, intra_cost}
use Rattle.block_choice.specs.Plans.{intra_plans}

pub cheaper_first : (a b : Plan) → a.cost ≤ b.cost → cheaper a b ≡ a
cheaper_first a b h = rw (le-leb a.cost b.cost h) refl

pub cheaper_second : (a b : Plan) → b.cost < a.cost → cheaper a b ≡ b
cheaper_second a b h = rw (lt-leb a.cost b.cost h) refl

cheapest_append : (best : Plan) (plans : List Plan) (last : Plan) → cheapest best (plans ++ last ∷ []) ≡ cheaper (cheapest best plans) last
cheapest_append best [] last = refl
cheapest_append best (p ∷ plans) last = cheapest_append (cheaper best p) plans last

-- one that none is cheaper than stays
cheapest_keep : (best : Plan) (plans : List Plan) → AllByRecursion (λ p. best.cost ≤ p.cost) plans → cheapest best plans ≡ best
cheapest_keep best [] all = refl
cheapest_keep best (p ∷ plans) all = rw (cheaper_first best p all.0) (cheapest_keep best plans all.1)

pub cheaper_least : (k : ℕ) (a b : Plan) → k ≤ a.cost → k ≤ b.cost → k ≤ (cheaper a b).cost
cheaper_least k a b ha hb = elim (cases_lt b.cost a.cost) [
  | inl less ↦ rw (cheaper_second a b less) hb
  | inr more ↦ rw (cheaper_first a b more) ha
]

cheapest_least : (k : ℕ) (best : Plan) (plans : List Plan) → k ≤ best.cost → AllByRecursion (λ p. k ≤ p.cost) plans → k ≤ (cheapest best plans).cost
cheapest_least k best [] h all = h
cheapest_least k best (p ∷ plans) h all = cheapest_least k (cheaper best p) plans (cheaper_least k best p h all.0) all.1

pub best_least : (k : ℕ) (plans : List Plan) (last : Plan) → AllByRecursion (λ p. k ≤ p.cost) plans → k ≤ last.cost → k ≤ (best_of plans last).cost
best_least k [] last all h = h
best_least k (p ∷ plans) last all h = cheapest_least k p (plans ++ last ∷ []) all.0 (all_append (λ q. k ≤ q.cost) plans (last ∷ []) all.1 (h, tt))

-- the last one where all others cost more
pub best_last : (plans : List Plan) (last : Plan) → AllByRecursion (λ p. suc last.cost ≤ p.cost) plans → best_of plans last ≡ last
best_last [] last all = refl
best_last (p ∷ plans) last all =
    let more : suc last.cost ≤ (cheapest p plans).cost = cheapest_least (suc last.cost) p plans all.0 all.1 in
    cheapest_append p plans last ∙ cheaper_second (cheapest p plans) last (omega arith)

-- the first one where none costs less
pub best_first : (first : Plan) (plans : List Plan) (last : Plan) → AllByRecursion (λ p. first.cost ≤ p.cost) plans → first.cost ≤ last.cost → best_of (first ∷ plans) last ≡ first
best_first first plans last all h = cheapest_keep first (plans ++ last ∷ []) (all_append (λ q. first.cost ≤ q.cost) plans (last ∷ []) all (h, tt))

-- at most what the last costs
cheapest_most : (best : Plan) (plans : List Plan) (last : Plan) → (cheapest best (plans ++ last ∷ [])).cost ≤ last.cost
cheapest_most best [] last = elim (cases_lt last.cost best.cost) [
  | inl less ↦ let e : (cheaper best last).cost ≡ last.cost = ap (λ (p : Plan). p.cost) (cheaper_second best last less) in omega arith
  | inr more ↦ let e : (cheaper best last).cost ≡ best.cost = ap (λ (p : Plan). p.cost) (cheaper_first best last more) in omega arith
]
cheapest_most best (p ∷ plans) last = cheapest_most (cheaper best p) plans last

pub best_most : (plans : List Plan) (last : Plan) → (best_of plans last).cost ≤ last.cost
best_most [] last = omega arith
best_most (p ∷ plans) last = cheapest_most p plans last

-- ---- the plans of modes

pub all_dear : (size : Size) (now : Picture) (block : CodingBlock) (k : ℕ) (modes : List ℕ)
    → ((i : ℕ) → i < length modes → k ≤ intra_cost size now (leaf_with block (Intra (get_or modes i 0)))) → AllByRecursion (λ p. k ≤ p.cost) (intra_plans size now block modes)
all_dear size now block k [] each = tt
all_dear size now block k (m ∷ modes) each = (each 0 (omega arith), all_dear size now block k modes (λ i h. each (suc i) (omega arith)))

pick : (size : Size) (now : Picture) (block : CodingBlock) (v : ℕ) (modes : List ℕ) (best : Plan) (at : ℕ) → at < length modes
    → ((i : ℕ) → i < at → v < intra_cost size now (leaf_with block (Intra (get_or modes i 0))))
    → ((i : ℕ) → i < length modes → v ≤ intra_cost size now (leaf_with block (Intra (get_or modes i 0))))
    → v ≡ intra_cost size now (leaf_with block (Intra (get_or modes at 0))) → v < best.cost
    → cheapest best (intra_plans size now block modes) ≡ one_leaf v (leaf_with block (Intra (get_or modes at 0)))
pick size now block v [] best at within earlier least is below = absurd (omega arith)
pick size now block v (m ∷ modes) best zero within earlier least is below =
    let one : Plan = one_leaf (intra_cost size now (leaf_with block (Intra m))) (leaf_with block (Intra m)) in
    let all : AllByRecursion (λ p. v ≤ p.cost) (intra_plans size now block modes) = all_dear size now block v modes (λ i h. least (suc i) (omega arith)) in
    let all' : AllByRecursion (λ p. one.cost ≤ p.cost) (intra_plans size now block modes) = rw is at all in
    ap (λ (b : Plan). cheapest b (intra_plans size now block modes)) (cheaper_second best one (omega arith))
    ∙ (cheapest_keep one (intra_plans size now block modes) all' ∙ ap (λ (k : ℕ). one_leaf k (leaf_with block (Intra m))) (sym is))
pick size now block v (m ∷ modes) best (suc at) within earlier least is below =
    let one : Plan = one_leaf (intra_cost size now (leaf_with block (Intra m))) (leaf_with block (Intra m)) in
    let more : v < one.cost = earlier 0 (omega arith) in
    let both : suc v ≤ (cheaper best one).cost = cheaper_least (suc v) best one (omega arith) (omega arith) in
    pick size now block v modes (cheaper best one) at (omega arith) (λ i h. earlier (suc i) (omega arith)) (λ i h. least (suc i) (omega arith)) is (omega arith)

pub best_pick : (size : Size) (now : Picture) (block : CodingBlock) (v : ℕ) (modes : List ℕ) (last : Plan) (at : ℕ) → at < length modes
    → ((i : ℕ) → i < at → v < intra_cost size now (leaf_with block (Intra (get_or modes i 0))))
    → ((i : ℕ) → i < length modes → v ≤ intra_cost size now (leaf_with block (Intra (get_or modes i 0))))
    → v ≡ intra_cost size now (leaf_with block (Intra (get_or modes at 0))) → v ≤ last.cost
    → best_of (intra_plans size now block modes) last ≡ one_leaf v (leaf_with block (Intra (get_or modes at 0)))
best_pick size now block v [] last at within earlier least is below = absurd (omega arith)
best_pick size now block v (m ∷ modes) last zero within earlier least is below =
    let one : Plan = one_leaf (intra_cost size now (leaf_with block (Intra m))) (leaf_with block (Intra m)) in
    let all : AllByRecursion (λ p. v ≤ p.cost) (intra_plans size now block modes) = all_dear size now block v modes (λ i h. least (suc i) (omega arith)) in
    let all' : AllByRecursion (λ p. one.cost ≤ p.cost) (intra_plans size now block modes) = rw is at all in
    best_first one (intra_plans size now block modes) last all' (omega arith) ∙ ap (λ (k : ℕ). one_leaf k (leaf_with block (Intra m))) (sym is)
best_pick size now block v (m ∷ modes) last (suc at) within earlier least is below =
    let one : Plan = one_leaf (intra_cost size now (leaf_with block (Intra m))) (leaf_with block (Intra m)) in
    let more : v < one.cost = earlier 0 (omega arith) in
    let p : cheapest one (intra_plans size now block modes) ≡ one_leaf v (leaf_with block (Intra (get_or modes at 0))) =
    pick size now block v modes one at (omega arith) (λ i h. earlier (suc i) (omega arith)) (λ i h. least (suc i) (omega arith)) is more in
    cheapest_append one (intra_plans size now block modes) last
    ∙ rw p (cheaper_first (one_leaf v (leaf_with block (Intra (get_or modes at 0)))) last below)
