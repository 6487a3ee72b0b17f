-- The leaves that are chosen are lawful, and those that are copied are so of equal blocks.
use Rattle.std.proofs.Common.{◌≡◌, refl, sym, ◌∙◌, ap, subst, ℕ, zero, suc, ◌+◌, ◌*◌, ◌^◌, ◌<◌, List, [], ◌∷◌, ◌++◌, Bool, true, false, cond, not, ◌&&◌, get_or, map, inl, inr, arith}
use Rattle.std.specs.Prelude.{Option, Some, None, ◌==◌, nat_lt, nat_le, MatchBool, ◌⊎◌}
use Rattle.std.specs.List.{AllByRecursion, list_all}
use Rattle.std.proofs.lemmas.Bool.{and_parts, ltb-true, eqb-true}
use Rattle.std.proofs.lemmas.List.FromFn.{get_or-map-range_with_len}
use Rattle.h265_model.specs.declared.leaf.SliceKind.TheVariants.{I, P}
use Rattle.h265_model.specs.declared.leaf.Leaf.{Leaf}
use Rattle.h265_model.specs.declared.leaf.Kind.{Kind}
use Rattle.h265_model.specs.declared.leaf.Kind.TheVariants.{Skip, Pcm, Intra}
use Rattle.h265_model.specs.Plain.{block_at, Size, Picture, leaf_with, below, ctu_x, ctu_y}
use Rattle.h265_model.specs.Predict.{is_inside}
use Rattle.h265_model.specs.Tree.{IsTree, IsLawfulTree, IsCodingUnit, AreQuarters, IsMode, AreAllowed, AreLawfulTrees, is_skipped, is_whole, samples_in, IsCopy}
use Rattle.h265_model.specs.Choice.{Plan, cheaper, cheapest, one_leaf, skips, best_of, leaf_plan, no_leaves, split_plan, plan, choice, is_copy, same, modes_of, intra_cost}
use Rattle.h265_model.proofs.ListParts.{all_append}

-- a leaf is copied only where there is a previous picture that has the same block
abbrev pub IsFair : Option Picture → Picture → Leaf → Type 0
IsFair None now leaf = is_skipped leaf.kind ≡ false
IsFair (Some prev) now leaf = leaf.kind ≡ Skip → is_copy prev now leaf ≡ true

-- a plan of one leaf
record IsOneLeaf (prev : Option Picture) (now : Picture) (x y log2 : ℕ) (p : Plan) : Type 0 where
  kind : Kind
  one : p.leaves ≡ leaf_with (block_at x y log2) kind ∷ []
  mode : IsMode kind
  fair : IsFair prev now (leaf_with (block_at x y log2) kind)

-- ---- the cheapest

cheaper_is : (T : Plan → Type 0) (a b : Plan) → T a → T b → T (cheaper a b)
cheaper_is T a b ha hb = go (nat_le a.cost b.cost)
  where
    go : (t : Bool) → T (cond t a b)
    go true = ha
    go false = hb

cheapest_is : (T : Plan → Type 0) (best : Plan) (plans : List Plan) → T best → AllByRecursion T plans → T (cheapest best plans)
cheapest_is T best [] h all = h
cheapest_is T best (p ∷ plans) h all = cheapest_is T (cheaper best p) plans (cheaper_is T best p h all.0) all.1

best_is : (T : Plan → Type 0) (plans : List Plan) (last : Plan) → AllByRecursion T plans → T last → T (best_of plans last)
best_is T [] last all h = h
best_is T (p ∷ plans) last all h = cheapest_is T p (plans ++ last ∷ []) all.0 (all_append T plans (last ∷ []) all.1 (h, tt))

-- ---- one leaf

all_from : (list : List ℕ) → list_all (λ m. nat_lt m 35) list ≡ true → AllByRecursion (λ m. m < 35) list
all_from [] h = tt
all_from (m ∷ list) h = let p = and_parts (nat_lt m 35) (list_all (λ k. nat_lt k 35) list) h in (ltb-true m 35 p.0, all_from list p.1)

pub modes_are : (effort : ℕ) → AllByRecursion (λ m. m < 35) (modes_of effort)
unfolding modes_of
modes_are zero = tt
modes_are (suc zero) = all_from (modes_of 1) refl
modes_are (suc (suc effort)) = all_from (modes_of 2) refl

skips_are : (prev : Option Picture) (now : Picture) (x y log2 : ℕ) → AllByRecursion (IsOneLeaf prev now x y log2) (skips prev now (leaf_with (block_at x y log2) Skip))
skips_are None now x y log2 = tt
skips_are (Some prev) now x y log2 = go (is_copy prev now (leaf_with (block_at x y log2) Skip)) refl
  where
    go : (t : Bool) → is_copy prev now (leaf_with (block_at x y log2) Skip) ≡ t → AllByRecursion (IsOneLeaf (Some prev) now x y log2) (cond t (one_leaf 1 (leaf_with (block_at x y log2) Skip) ∷ []) [])
    go true e = (record { kind = Skip; one = refl; mode = tt; fair = λ k. e }, tt)
    go false e = tt

not_skip : (k : Kind) → is_skipped k ≡ false → k ≡ Skip → ⊥
not_skip k h e = let s : is_skipped k ≡ true = ap is_skipped e in absurd (cc)

fair_coded : (prev : Option Picture) (now : Picture) (x y log2 : ℕ) (k : Kind) → is_skipped k ≡ false → IsFair prev now (leaf_with (block_at x y log2) k)
fair_coded None now x y log2 k h = h
fair_coded (Some prev) now x y log2 k h = λ e. absurd (not_skip k h e)

coded_are : (prev : Option Picture) (now : Picture) (size : Size) (x y log2 : ℕ) (modes : List ℕ) → AllByRecursion (λ m. m < 35) modes
    → AllByRecursion (IsOneLeaf prev now x y log2) (map (λ mode. one_leaf (intra_cost size now (leaf_with (block_at x y log2) (Intra mode))) (leaf_with (block_at x y log2) (Intra mode))) modes)
coded_are prev now size x y log2 [] h = tt
coded_are prev now size x y log2 (m ∷ modes) h =
    (record { kind = Intra m; one = refl; mode = h.0; fair = fair_coded prev now x y log2 (Intra m) refl }, coded_are prev now size x y log2 modes h.1)

leaf_plan_is : (prev : Option Picture) (now : Picture) (size : Size) (effort x y log2 : ℕ) → IsOneLeaf prev now x y log2 (leaf_plan prev now size effort (block_at x y log2))
unfolding leaf_plan
leaf_plan_is prev now size effort x y log2 =
    best_is (IsOneLeaf prev now x y log2) _ _
    (all_append (IsOneLeaf prev now x y log2) (skips prev now (leaf_with (block_at x y log2) Skip)) _ (skips_are prev now x y log2) (coded_are prev now size x y log2 (modes_of effort) (modes_are effort)))
    (record { kind = Pcm; one = refl; mode = tt; fair = fair_coded prev now x y log2 Pcm refl })

-- ---- trees

record IsLawfulPlan (prev : Option Picture) (now : Picture) (size : Size) (depth x y : ℕ) (p : Plan) : Type 0 where
  tree : IsTree size depth x y p.leaves
  fair : AllByRecursion (IsFair prev now) p.leaves

unit_of : (prev : Option Picture) (now : Picture) (x y log2 : ℕ) (p : Plan) → IsOneLeaf prev now x y log2 p → IsCodingUnit (block_at x y log2) p.leaves
unit_of prev now x y log2 p h = record { kind = h.kind; one = h.one; mode = h.mode }

fair_of : (prev : Option Picture) (now : Picture) (x y log2 : ℕ) (p : Plan) → IsOneLeaf prev now x y log2 p → AllByRecursion (IsFair prev now) p.leaves
fair_of prev now x y log2 p h = subst (λ (l : List Leaf). AllByRecursion (IsFair prev now) l) (sym h.one) (h.fair, tt)

plan_is : (prev : Option Picture) (now : Picture) (size : Size) (effort depth x y : ℕ) → IsLawfulPlan prev now size depth x y (plan prev now size effort depth x y)
plan_is prev now size effort zero x y = record { tree = tree_there (is_inside size x y); fair = fair_there (is_inside size x y) }
  where
    one : Plan
    one = leaf_plan prev now size effort (block_at x y 3)

    is : IsOneLeaf prev now x y 3 one
    is = leaf_plan_is prev now size effort x y 3

    tree_there : (b : Bool) → MatchBool b (IsCodingUnit (block_at x y 3) (cond b one no_leaves).leaves) ((cond b one no_leaves).leaves ≡ [])
    tree_there true = unit_of prev now x y 3 one is
    tree_there false = refl

    fair_there : (b : Bool) → AllByRecursion (IsFair prev now) (cond b one no_leaves).leaves
    fair_there true = fair_of prev now x y 3 one is
    fair_there false = tt
plan_is prev now size effort (suc depth) x y =
    record {
      tree = tree_there (λ px py. plan_is prev now size effort depth px py) (is_inside size x y) (is_whole size (2 * half) x y);
      fair = fair_there (λ px py. plan_is prev now size effort depth px py) (is_inside size x y) (is_whole size (2 * half) x y);
    }
  where
    half : ℕ
    half = 2 ^ (3 + depth)

    go : ℕ → ℕ → Plan
    go = plan prev now size effort depth

    Lower : Type 0
    Lower = (px py : ℕ) → IsLawfulPlan prev now size depth px py (go px py)

    one : Plan
    one = leaf_plan prev now size effort (block_at x y (4 + depth))

    split : Plan
    split = split_plan go half x y

    is : IsOneLeaf prev now x y (4 + depth) one
    is = leaf_plan_is prev now size effort x y (4 + depth)

    four : Lower → AreQuarters (IsTree size depth) half x y split.leaves
    four lower = record {
      first = (go x y).leaves;
      second = (go (x + half) y).leaves;
      third = (go x (y + half)).leaves;
      fourth = (go (x + half) (y + half)).leaves;
      together = refl;
      top_left = (lower x y).tree;
      top_right = (lower (x + half) y).tree;
      bottom_left = (lower x (y + half)).tree;
      bottom_right = (lower (x + half) (y + half)).tree;
    }

    four_fair : Lower → AllByRecursion (IsFair prev now) split.leaves
    four_fair lower =
        all_append (IsFair prev now) (((go x y).leaves ++ (go (x + half) y).leaves) ++ (go x (y + half)).leaves) (go (x + half) (y + half)).leaves
        (all_append (IsFair prev now) ((go x y).leaves ++ (go (x + half) y).leaves) (go x (y + half)).leaves
        (all_append (IsFair prev now) (go x y).leaves (go (x + half) y).leaves (lower x y).fair (lower (x + half) y).fair) (lower x (y + half)).fair)
        (lower (x + half) (y + half)).fair

    tree_there : Lower → (a b : Bool)
        → MatchBool a (MatchBool b (IsCodingUnit (block_at x y (4 + depth)) (cond (not a) no_leaves (cond (not b) split (cheaper one split))).leaves ⊎ AreQuarters (IsTree size depth) half x y (cond (not a) no_leaves (cond (not b) split (cheaper one split))).leaves)
        (AreQuarters (IsTree size depth) half x y (cond (not a) no_leaves (cond (not b) split (cheaper one split))).leaves)) ((cond (not a) no_leaves (cond (not b) split (cheaper one split))).leaves ≡ [])
    tree_there lower true true = cheaper_is (λ p. IsCodingUnit (block_at x y (4 + depth)) p.leaves ⊎ AreQuarters (IsTree size depth) half x y p.leaves) one split (inl (unit_of prev now x y (4 + depth) one is)) (inr (four lower))
    tree_there lower true false = four lower
    tree_there lower false b = refl

    fair_there : Lower → (a b : Bool) → AllByRecursion (IsFair prev now) (cond (not a) no_leaves (cond (not b) split (cheaper one split))).leaves
    fair_there lower true true = cheaper_is (λ p. AllByRecursion (IsFair prev now) p.leaves) one split (fair_of prev now x y (4 + depth) one is) (four_fair lower)
    fair_there lower true false = four_fair lower
    fair_there lower false b = tt

-- ---- the choice

pub choice_is_lawful : (prev : Option Picture) (now : Picture) (size : Size) (effort ctu : ℕ) → IsLawfulTree size ctu (choice prev now size effort ctu)
unfolding choice
choice_is_lawful prev now size effort ctu = (plan_is prev now size effort 2 (ctu_x size ctu) (ctu_y size ctu)).tree

pub choice_is_fair : (prev : Option Picture) (now : Picture) (size : Size) (effort ctu : ℕ) → AllByRecursion (IsFair prev now) (choice prev now size effort ctu)
unfolding choice
choice_is_fair prev now size effort ctu = (plan_is prev now size effort 2 (ctu_x size ctu) (ctu_y size ctu)).fair

-- ---- copies

pub same_is : (xs ys : List ℕ) → same xs ys ≡ true → xs ≡ ys
same_is [] [] h = refl
same_is [] (y ∷ ys) h = absurd (cc)
same_is (x ∷ xs) [] h = absurd (cc)
same_is (x ∷ xs) (y ∷ ys) h =
    let p = and_parts (x == y) (same xs ys) h in
    ap (λ (v : ℕ). v ∷ xs) (eqb-true x y p.0) ∙ ap (λ (l : List ℕ). y ∷ l) (same_is xs ys p.1)

copy_blocks : (prev now : Picture) (leaf : Leaf) → is_copy prev now leaf ≡ true → (component : ℕ) → component < 3 → samples_in prev leaf component ≡ samples_in now leaf component
unfolding is_copy
copy_blocks prev now leaf h component small =
    let t : ℕ → Bool = λ c. same (samples_in prev leaf c) (samples_in now leaf c) in
    let p = and_parts (t 0) (t 1 && (t 2 && true)) h in
    let q = and_parts (t 1) (t 2 && true) p.1 in
    let r = and_parts (t 2) true q.1 in
    go component small (same_is _ _ p.0) (same_is _ _ q.0) (same_is _ _ r.0)
  where
    go : (c : ℕ) → c < 3 → samples_in prev leaf 0 ≡ samples_in now leaf 0 → samples_in prev leaf 1 ≡ samples_in now leaf 1 → samples_in prev leaf 2 ≡ samples_in now leaf 2
        → samples_in prev leaf c ≡ samples_in now leaf c
    go zero k a b d = a
    go (suc zero) k a b d = b
    go (suc (suc zero)) k a b d = d
    go (suc (suc (suc c))) k a b d = absurd (omega arith)

pub copies_are : (prev now : Picture) (leaves : List Leaf) → AllByRecursion (IsFair (Some prev) now) leaves → AllByRecursion (IsCopy prev now) leaves
copies_are prev now [] h = tt
copies_are prev now (leaf ∷ leaves) h = (λ k component small. copy_blocks prev now leaf (h.0 k) component small, copies_are prev now leaves h.1)

-- leaves of a picture alone are no copies
pub no_copies : (prev now : Picture) (leaves : List Leaf) → AllByRecursion (IsFair None now) leaves → AllByRecursion (IsCopy prev now) leaves
no_copies prev now [] h = tt
no_copies prev now (leaf ∷ leaves) h = (λ k component small. absurd (let s : is_skipped leaf.kind ≡ true = ap is_skipped k in let f : is_skipped leaf.kind ≡ false = h.0 in cc), no_copies prev now leaves h.1)

-- ---- kinds that the slice may have

pub allowed_alone : (now : Picture) (leaves : List Leaf) → AllByRecursion (IsFair None now) leaves → AreAllowed I leaves
allowed_alone now [] h = tt
allowed_alone now (leaf ∷ leaves) h = (h.0, allowed_alone now leaves h.1)

pub allowed_after : (leaves : List Leaf) → AreAllowed P leaves
allowed_after [] = tt
allowed_after (leaf ∷ leaves) = (tt, allowed_after leaves)

pub chosen_at : (prev : Option Picture) (now : Picture) (size : Size) (effort total ctu : ℕ) → ctu < total → get_or (map (choice prev now size effort) (below total)) ctu [] ≡ choice prev now size effort ctu
chosen_at prev now size effort total ctu h = get_or-map-range_with_len (choice prev now size effort) 0 total ctu ctu [] h (omega arith)

pub lawful_alone : (now : Picture) (size : Size) (effort total : ℕ) → AreLawfulTrees I size (map (choice None now size effort) (below total)) total
lawful_alone now size effort total = record {
  tree = λ ctu h. subst (λ (l : List Leaf). IsLawfulTree size ctu l) (sym (chosen_at None now size effort total ctu h)) (choice_is_lawful None now size effort ctu);
  allowed = λ ctu h. subst (λ (l : List Leaf). AreAllowed I l) (sym (chosen_at None now size effort total ctu h)) (allowed_alone now _ (choice_is_fair None now size effort ctu));
}

pub lawful_after : (prev : Option Picture) (now : Picture) (size : Size) (effort total : ℕ) → AreLawfulTrees P size (map (choice prev now size effort) (below total)) total
lawful_after prev now size effort total = record {
  tree = λ ctu h. subst (λ (l : List Leaf). IsLawfulTree size ctu l) (sym (chosen_at prev now size effort total ctu h)) (choice_is_lawful prev now size effort ctu);
  allowed = λ ctu h. allowed_after (get_or (map (choice prev now size effort) (below total)) ctu []);
}
