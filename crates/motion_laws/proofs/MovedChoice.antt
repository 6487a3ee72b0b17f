-- The units that are chosen where blocks may move are lawful, and those that are copied are so of equal blocks.
use Rattle.std.proofs.Common.{◌≡◌, refl, sym, ◌∙◌, ap, subst, ℕ, zero, suc, ◌+◌, ◌*◌, ◌^◌, ◌<◌, ◌≤◌, List, [], ◌∷◌, ◌++◌, Bool, true, false, cond, not, ◌&&◌, get_or, map, take, inl, inr, length, arith}
use Rattle.std.specs.Prelude.{nat_le, MatchBool, ◌⊎◌}
use Rattle.std.specs.List.{AllByRecursion, filter, flat_map, range_with_len}
use Rattle.std.proofs.lemmas.Bool.{and_parts}
use Rattle.h265_model.specs.declared.leaf.SliceKind.TheVariants.{P}
use Rattle.h265_model.specs.declared.leaf.Kind.TheVariants.{Intra}
use Rattle.h265_model.specs.declared.leaf.Leaf.{Leaf}
use Rattle.h265_model.specs.declared.moves.Vector.{Vector}
use Rattle.h265_model.specs.declared.moves.MoveLeaf.{MoveLeaf}
use Rattle.h265_model.specs.declared.moves.MoveKind.{MoveKind}
use Rattle.h265_model.specs.declared.moves.MoveKind.TheVariants as moves
use Rattle.h265_model.specs.Plain.{block_at, Size, Picture, leaf_with, joined, ctu_x, ctu_y}
use Rattle.h265_model.specs.Predict.{is_inside}
use Rattle.h265_model.specs.Tree.{is_whole, samples_in}
use Rattle.h265_model.specs.Choice.{intra_cost, same, modes_of}
use Rattle.h265_model.specs.Motion.{Moving, merge, has_source, leaf_as_coded, as_coded, coded_after}
use Rattle.h265_model.specs.Rebuild.{moved_samples}
use Rattle.h265_model.specs.MotionChoice.{MovePlan, cheaper, cheapest, best_of, unit_at, one_unit, vectors_of, tried_vectors, is_copy_by, skip_plans, move_plans, unit_plan, no_units, split_plan, plan, moved_choice, moved_choices}
use Rattle.h265_model.specs.Tree.{coded_first}
use Rattle.h265_model.proofs.ListParts.{all_append}
use Rattle.h265_laws.proofs.ChoiceLaw.{modes_are, same_is}
use Rattle.unit_laws.specs.Laws.{IsShort, CanStand, CanStandAll, IsOneUnit, AreFourParts, IsUnitTree, AreLawfulUnits, IsSameBlock, IsCopied, AreCopied}
use Rattle.unit_laws.proofs.UnitTreeLaw.{coded-append}
use Rattle.motion_laws.specs.Laws.{EachMovedChoiceIsLawful}

-- ---- the cheapest

cheaper_is : (T : MovePlan → Type 0) (a b : MovePlan) → T a → T b → T (cheaper a b)
cheaper_is T a b ha hb = go (nat_le a.cost b.cost)
  where
    go : (t : Bool) → T (cond t a b)
    go true = ha
    go false = hb

cheapest_is : (T : MovePlan → Type 0) (best : MovePlan) (plans : List MovePlan) → T best → AllByRecursion T plans → T (cheapest best plans)
cheapest_is T best [] h all = h
cheapest_is T best (p ∷ plans) h all = cheapest_is T (cheaper best p) plans (cheaper_is T best p h all.0) all.1

best_is : (T : MovePlan → Type 0) (plans : List MovePlan) (last : MovePlan) → AllByRecursion T plans → T last → T (best_of plans last)
best_is T [] last all h = h
best_is T (p ∷ plans) last all h = cheapest_is T p (plans ++ last ∷ []) all.0 (all_append T plans (last ∷ []) all.1 (h, tt))

-- ---- vectors that are tried

short_vectors : (d : ℕ) → d ≤ 64 → AllByRecursion IsShort (vectors_of d)
short_vectors zero h = (record { x = omega arith; y = omega arith }, (record { x = omega arith; y = omega arith }, (record { x = omega arith; y = omega arith }, (record { x = omega arith; y = omega arith }, tt))))
short_vectors (suc d) h = (record { x = omega arith; y = omega arith }, (record { x = omega arith; y = omega arith }, (record { x = omega arith; y = omega arith }, (record { x = omega arith; y = omega arith }, tt))))

short_from : (a n : ℕ) → a + n ≤ 64 → AllByRecursion IsShort (flat_map (λ d. vectors_of (suc d)) (range_with_len a n))
short_from a zero h = tt
short_from a (suc n) h = all_append IsShort (vectors_of (suc a)) (flat_map (λ d. vectors_of (suc d)) (range_with_len (a + 1) n)) (short_vectors (suc a) (omega arith)) (short_from (a + 1) n (omega arith))

tried_short : AllByRecursion IsShort tried_vectors
unfolding tried_vectors
tried_short = (record { x = omega arith; y = omega arith }, short_from 0 64 (omega arith))

-- ---- copies

record IsFoundAt (prev now : Picture) (size : Size) (leaf : Leaf) (v : Vector) : Type 0 where
  source : has_source size leaf.block v ≡ true
  block : IsSameBlock prev now leaf v

found_at : (prev now : Picture) (size : Size) (leaf : Leaf) (v : Vector) → is_copy_by prev now size leaf v ≡ true → IsFoundAt prev now size leaf v
unfolding is_copy_by
found_at prev now size leaf v h =
    let t : ℕ → Bool = λ c. same (moved_samples prev leaf v c) (samples_in now leaf c) in
    let s = and_parts (has_source size leaf.block v) (t 0 && (t 1 && (t 2 && true))) h in
    let p = and_parts (t 0) (t 1 && (t 2 && true)) s.1 in
    let q = and_parts (t 1) (t 2 && true) p.1 in
    let r = and_parts (t 2) true q.1 in
    record { source = s.0; block = λ c small. go c small (same_is _ _ p.0) (same_is _ _ q.0) (same_is _ _ r.0) }
  where
    go : (c : ℕ) → c < 3 → moved_samples prev leaf v 0 ≡ samples_in now leaf 0 → moved_samples prev leaf v 1 ≡ samples_in now leaf 1 → moved_samples prev leaf v 2 ≡ samples_in now leaf 2
        → moved_samples prev leaf v c ≡ samples_in now leaf c
    go zero k a b d = a
    go (suc zero) k a b d = b
    go (suc (suc zero)) k a b d = d
    go (suc (suc (suc c))) k a b d = absurd (omega arith)

-- ---- one unit

-- a plan of one unit, which can stand, and is copied of an equal block if it is copied
record IsOneChosen (prev now : Picture) (size : Size) (before : List Moving) (x y log2 : ℕ) (p : MovePlan) : Type 0 where
  kind : MoveKind
  one : p.units ≡ unit_at (block_at x y log2) kind ∷ []
  stand : CanStand P size before (block_at x y log2) kind
  copied : IsCopied prev now before (unit_at (block_at x y log2) kind) kind

module _ (prev now : Picture) (size : Size) (effort : ℕ) where
  skips_are : (before : List Moving) (x y log2 : ℕ) → AllByRecursion (IsOneChosen prev now size before x y log2) (skip_plans prev now size before (unit_at (block_at x y log2) moves.Skip))
  skips_are before x y log2 = go (is_copy_by prev now size unit_leaf v) refl
    where
      unit_leaf : Leaf
      unit_leaf = leaf_as_coded (unit_at (block_at x y log2) moves.Skip)

      v : Vector
      v = merge before (block_at x y log2)

      go : (t : Bool) → is_copy_by prev now size unit_leaf v ≡ t → AllByRecursion (IsOneChosen prev now size before x y log2) (cond t (one_unit 1 (unit_at (block_at x y log2) moves.Skip) ∷ []) [])
      go true e = let f : IsFoundAt prev now size unit_leaf v = found_at prev now size unit_leaf v e in (record { kind = moves.Skip; one = refl; stand = f.source; copied = f.block }, tt)
      go false e = tt

  moves_are : (before : List Moving) (x y log2 : ℕ) (vs : List Vector) → AllByRecursion IsShort vs
      → AllByRecursion (IsOneChosen prev now size before x y log2) (map (λ v. one_unit 16 (unit_at (block_at x y log2) (moves.Move v))) (filter (λ v. is_copy_by prev now size (leaf_as_coded (unit_at (block_at x y log2) (moves.Move v))) v) vs))
  moves_are before x y log2 [] short = tt
  moves_are before x y log2 (v ∷ vs) short = go (is_copy_by prev now size (leaf_as_coded (unit_at (block_at x y log2) (moves.Move v))) v) refl (moves_are before x y log2 vs short.1)
    where
      made : List Vector → List MovePlan
      made ws = map (λ w. one_unit 16 (unit_at (block_at x y log2) (moves.Move w))) ws

      found : List Vector
      found = filter (λ w. is_copy_by prev now size (leaf_as_coded (unit_at (block_at x y log2) (moves.Move w))) w) vs

      go : (t : Bool) → is_copy_by prev now size (leaf_as_coded (unit_at (block_at x y log2) (moves.Move v))) v ≡ t → AllByRecursion (IsOneChosen prev now size before x y log2) (made found)
          → AllByRecursion (IsOneChosen prev now size before x y log2) (made (cond t (v ∷ found) found))
      go true e later =
          let f : IsFoundAt prev now size (leaf_as_coded (unit_at (block_at x y log2) (moves.Move v))) v = found_at prev now size (leaf_as_coded (unit_at (block_at x y log2) (moves.Move v))) v e in
          (record { kind = moves.Move v; one = refl; stand = (short.0, f.source); copied = f.block }, later)
      go false e later = later

  intra_are : (before : List Moving) (x y log2 : ℕ) (modes : List ℕ) → AllByRecursion (λ m. m < 35) modes
      → AllByRecursion (IsOneChosen prev now size before x y log2) (map (λ mode. one_unit (intra_cost size now (leaf_with (block_at x y log2) (Intra mode))) (unit_at (block_at x y log2) (moves.Intra mode))) modes)
  intra_are before x y log2 [] h = tt
  intra_are before x y log2 (m ∷ modes) h = (record { kind = moves.Intra m; one = refl; stand = h.0; copied = tt }, intra_are before x y log2 modes h.1)

  unit_plan_is : (before : List Moving) (x y log2 : ℕ) → IsOneChosen prev now size before x y log2 (unit_plan prev now size effort before (block_at x y log2))
  unfolding unit_plan
  unit_plan_is before x y log2 =
      let skips : List MovePlan = skip_plans prev now size before (unit_at (block_at x y log2) moves.Skip) in
      let moved : List MovePlan = move_plans prev now size (block_at x y log2) in
      best_is (IsOneChosen prev now size before x y log2) _ _
      (all_append (IsOneChosen prev now size before x y log2) (skips ++ moved) _
      (all_append (IsOneChosen prev now size before x y log2) skips moved (skips_are before x y log2) (moves_are before x y log2 tried_vectors tried_short))
      (intra_are before x y log2 (modes_of effort) (modes_are effort)))
      (record { kind = moves.Pcm; one = refl; stand = tt; copied = tt })

-- ---- units one after another

stand-append : (size : Size) (before : List Moving) (a b : List MoveLeaf) → CanStandAll P size before a → CanStandAll P size (coded_after before a) b → CanStandAll P size before (a ++ b)
stand-append size before [] b h k = k
stand-append size before (u ∷ a) b h k = (h.0, stand-append size (before ++ as_coded before u ∷ []) a b h.1 k)

copied-append : (prev now : Picture) (before : List Moving) (a b : List MoveLeaf) → AreCopied prev now before a → AreCopied prev now (coded_after before a) b → AreCopied prev now before (a ++ b)
copied-append prev now before [] b h k = k
copied-append prev now before (u ∷ a) b h k = (h.0, copied-append prev now (before ++ as_coded before u ∷ []) a b h.1 k)

-- ---- trees

-- what is known of units that are lawful and that are copied of equal blocks
record AreFair (prev now : Picture) (size : Size) (before : List Moving) (units : List MoveLeaf) : Type 0 where
  stand : CanStandAll P size before units
  copied : AreCopied prev now before units

fair_one : (prev now : Picture) (size : Size) (before : List Moving) (x y log2 : ℕ) (p : MovePlan) → IsOneChosen prev now size before x y log2 p → AreFair prev now size before p.units
fair_one prev now size before x y log2 p h = record {
  stand = subst (CanStandAll P size before) (sym h.one) (h.stand, tt);
  copied = subst (AreCopied prev now before) (sym h.one) (h.copied, tt);
}

fair-append : (prev now : Picture) (size : Size) (before : List Moving) (a b : List MoveLeaf) → AreFair prev now size before a → AreFair prev now size (coded_after before a) b → AreFair prev now size before (a ++ b)
fair-append prev now size before a b h k = record { stand = stand-append size before a b h.stand k.stand; copied = copied-append prev now before a b h.copied k.copied }

one_of_plan : (prev now : Picture) (size : Size) (before : List Moving) (x y log2 : ℕ) (p : MovePlan) → IsOneChosen prev now size before x y log2 p → IsOneUnit (block_at x y log2) p.units
one_of_plan prev now size before x y log2 p h = record { kind = h.kind; one = h.one }

module _ (prev now : Picture) (size : Size) (effort : ℕ) where
  -- trees and fair units
  Lawful : ℕ → ℕ → ℕ → List Moving → MovePlan → Type 0
  Lawful depth x y before p = IsUnitTree size depth x y p.units × AreFair prev now size before p.units

  plan_is : (depth x y : ℕ) (before : List Moving) → Lawful depth x y before (plan prev now size effort depth x y before)
  unfolding Lawful
  plan_is zero x y before = (tree_there (is_inside size x y), fair_there (is_inside size x y))
    where
      one : MovePlan
      one = unit_plan prev now size effort before (block_at x y 3)

      is : IsOneChosen prev now size before x y 3 one
      is = unit_plan_is prev now size effort before x y 3

      tree_there : (b : Bool) → MatchBool b (IsOneUnit (block_at x y 3) (cond b one no_units).units) ((cond b one no_units).units ≡ [])
      tree_there true = one_of_plan prev now size before x y 3 one is
      tree_there false = refl

      fair_there : (b : Bool) → AreFair prev now size before (cond b one no_units).units
      fair_there true = fair_one prev now size before x y 3 one is
      fair_there false = record { stand = tt; copied = tt }
  plan_is (suc depth) x y before =
      (tree_there (λ px py b. plan_is depth px py b) (is_inside size x y) (is_whole size (2 * half) x y), fair_there (λ px py b. plan_is depth px py b) (is_inside size x y) (is_whole size (2 * half) x y))
    where
      half : ℕ
      half = 2 ^ (3 + depth)

      go : ℕ → ℕ → List Moving → MovePlan
      go = plan prev now size effort depth

      Lower : Type 0
      Lower = (px py : ℕ) (b : List Moving) → Lawful depth px py b (go px py b)

      one : MovePlan
      one = unit_plan prev now size effort before (block_at x y (4 + depth))

      split : MovePlan
      split = split_plan go half x y before

      is : IsOneChosen prev now size before x y (4 + depth) one
      is = unit_plan_is prev now size effort before x y (4 + depth)

      a : MovePlan
      a = go x y before

      b : MovePlan
      b = go (x + half) y (coded_after before a.units)

      c : MovePlan
      c = go x (y + half) (coded_after before (a.units ++ b.units))

      d : MovePlan
      d = go (x + half) (y + half) (coded_after before ((a.units ++ b.units) ++ c.units))

      four : Lower → AreFourParts (IsUnitTree size depth) half x y split.units
      four lower = record {
        first = a.units;
        second = b.units;
        third = c.units;
        fourth = d.units;
        together = refl;
        top_left = (lower x y before).0;
        top_right = (lower (x + half) y (coded_after before a.units)).0;
        bottom_left = (lower x (y + half) (coded_after before (a.units ++ b.units))).0;
        bottom_right = (lower (x + half) (y + half) (coded_after before ((a.units ++ b.units) ++ c.units))).0;
      }

      four_fair : Lower → AreFair prev now size before split.units
      four_fair lower =
          fair-append prev now size before ((a.units ++ b.units) ++ c.units) d.units
          (fair-append prev now size before (a.units ++ b.units) c.units
          (fair-append prev now size before a.units b.units (lower x y before).1 (lower (x + half) y (coded_after before a.units)).1)
          (lower x (y + half) (coded_after before (a.units ++ b.units))).1)
          (lower (x + half) (y + half) (coded_after before ((a.units ++ b.units) ++ c.units))).1

      tree_there : Lower → (p q : Bool)
          → MatchBool p (MatchBool q (IsOneUnit (block_at x y (4 + depth)) (cond (not p) no_units (cond (not q) split (cheaper one split))).units ⊎ AreFourParts (IsUnitTree size depth) half x y (cond (not p) no_units (cond (not q) split (cheaper one split))).units)
          (AreFourParts (IsUnitTree size depth) half x y (cond (not p) no_units (cond (not q) split (cheaper one split))).units)) ((cond (not p) no_units (cond (not q) split (cheaper one split))).units ≡ [])
      tree_there lower true true = cheaper_is (λ p. IsOneUnit (block_at x y (4 + depth)) p.units ⊎ AreFourParts (IsUnitTree size depth) half x y p.units) one split (inl (one_of_plan prev now size before x y (4 + depth) one is)) (inr (four lower))
      tree_there lower true false = four lower
      tree_there lower false q = refl

      fair_there : Lower → (p q : Bool) → AreFair prev now size before (cond (not p) no_units (cond (not q) split (cheaper one split))).units
      fair_there lower true true = cheaper_is (λ p. AreFair prev now size before p.units) one split (fair_one prev now size before x y (4 + depth) one is) (four_fair lower)
      fair_there lower true false = four_fair lower
      fair_there lower false q = record { stand = tt; copied = tt }

  -- ---- the choice

  choice_is : (before : List Moving) (ctu : ℕ) → Lawful 2 (ctu_x size ctu) (ctu_y size ctu) before (plan prev now size effort 2 (ctu_x size ctu) (ctu_y size ctu) before)
  choice_is before ctu = plan_is 2 (ctu_x size ctu) (ctu_y size ctu) before

  choice_tree : (before : List Moving) (ctu : ℕ) → IsUnitTree size 2 (ctu_x size ctu) (ctu_y size ctu) (moved_choice prev now size effort before ctu)
  unfolding moved_choice Lawful
  choice_tree before ctu = (choice_is before ctu).0

  choice_fair : (before : List Moving) (ctu : ℕ) → AreFair prev now size before (moved_choice prev now size effort before ctu)
  unfolding moved_choice Lawful
  choice_fair before ctu = (choice_is before ctu).1

  -- ---- all coding tree units

  pub chosen_length : (n : ℕ) (before : List Moving) (ctu : ℕ) → length (moved_choices prev now size effort n before ctu) ≡ n
  unfolding moved_choices
  chosen_length zero before ctu = refl
  chosen_length (suc n) before ctu = ap suc (chosen_length n (coded_after before (moved_choice prev now size effort before ctu)) (suc ctu))

  chosen_at : (n : ℕ) (before : List Moving) (ctu i : ℕ) → i < n
      → get_or (moved_choices prev now size effort n before ctu) i [] ≡ moved_choice prev now size effort (coded_after before (joined (take i (moved_choices prev now size effort n before ctu)))) (ctu + i)
  unfolding moved_choices
  chosen_at zero before ctu i h = absurd (omega arith)
  chosen_at (suc n) before ctu zero h = let e : ctu ≡ ctu + 0 = omega arith in ap (moved_choice prev now size effort before) e
  chosen_at (suc n) before ctu (suc i) h =
      let first : List MoveLeaf = moved_choice prev now size effort before ctu in
      let others : List (List MoveLeaf) = moved_choices prev now size effort n (coded_after before first) (suc ctu) in
      let e : suc ctu + i ≡ ctu + suc i = omega arith in
      chosen_at n (coded_after before first) (suc ctu) i (omega arith)
      ∙ (ap (λ (b : List Moving). moved_choice prev now size effort b (suc ctu + i)) (sym (coded-append before first (joined (take i others))))
      ∙ ap (moved_choice prev now size effort (coded_after before (first ++ joined (take i others)))) e)

  pub chosen_copied : (n : ℕ) (before : List Moving) (ctu : ℕ) → AreCopied prev now before (joined (moved_choices prev now size effort n before ctu))
  unfolding moved_choices
  chosen_copied zero before ctu = tt
  chosen_copied (suc n) before ctu =
      let first : List MoveLeaf = moved_choice prev now size effort before ctu in
      copied-append prev now before first (joined (moved_choices prev now size effort n (coded_after before first) (suc ctu))) (choice_fair before ctu).copied (chosen_copied n (coded_after before first) (suc ctu))

  pub chosen_stand : (n : ℕ) (before : List Moving) (ctu : ℕ) → CanStandAll P size before (joined (moved_choices prev now size effort n before ctu))
  unfolding moved_choices
  chosen_stand zero before ctu = tt
  chosen_stand (suc n) before ctu =
      let first : List MoveLeaf = moved_choice prev now size effort before ctu in
      stand-append size before first (joined (moved_choices prev now size effort n (coded_after before first) (suc ctu))) (choice_fair before ctu).stand (chosen_stand n (coded_after before first) (suc ctu))

  pub chosen_here : (total ctu : ℕ) → ctu < total
      → get_or (moved_choices prev now size effort total [] 0) ctu [] ≡ moved_choice prev now size effort (coded_first (moved_choices prev now size effort total [] 0) ctu) ctu
  chosen_here total ctu h = let e : 0 + ctu ≡ ctu = omega arith in chosen_at total [] 0 ctu h ∙ ap (moved_choice prev now size effort (coded_first (moved_choices prev now size effort total [] 0) ctu)) e

  pub chosen_lawful : (total : ℕ) → AreLawfulUnits P size (moved_choices prev now size effort total [] 0) total
  chosen_lawful total =
      let units : List (List MoveLeaf) = moved_choices prev now size effort total [] 0 in
      record {
        tree = λ ctu few. subst (λ (l : List MoveLeaf). IsUnitTree size 2 (ctu_x size ctu) (ctu_y size ctu) l) (sym (chosen_here total ctu few)) (choice_tree (coded_first units ctu) ctu);
        stand = λ ctu few. subst (λ (l : List MoveLeaf). CanStandAll P size (coded_first units ctu) l) (sym (chosen_here total ctu few)) (choice_fair (coded_first units ctu) ctu).stand;
      }

pub choices_are_lawful : EachMovedChoiceIsLawful
choices_are_lawful prev now size effort total = (chosen_length prev now size effort total [] 0, chosen_lawful prev now size effort total, chosen_copied prev now size effort total [] 0)
