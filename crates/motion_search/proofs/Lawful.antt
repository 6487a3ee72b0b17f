-- The units that are chosen are a lawful tree, and may stand in a P slice.
use Rattle.std.proofs.Common.{◌≡◌, refl, sym, ◌∙◌, ap, subst, ℕ, zero, suc, ◌+◌, ◌*◌, ◌^◌, ◌<◌, ◌≤◌, List, [], ◌∷◌, ◌++◌, Bool, true, false, cond, not, map, inl, inr, arith}
use Rattle.std.specs.Prelude.{nat_le, MatchBool, ◌⊎◌}
use Rattle.std.specs.List.{AllByRecursion, filter, flat_map, range_with_len}
use Rattle.std.proofs.lemmas.List.{map-append}
use Rattle.h265_model.specs.declared.leaf.SliceKind.TheVariants.{P}
use Rattle.h265_model.specs.declared.leaf.Kind.TheVariants.{Intra}
use Rattle.h265_model.specs.declared.leaf.Leaf.{Leaf}
use Rattle.h265_model.specs.declared.moves.Vector.{Vector}
use Rattle.h265_model.specs.declared.moves.MoveLeaf.{MoveLeaf}
use Rattle.h265_model.specs.declared.moves.MoveKind.{MoveKind}
use Rattle.h265_model.specs.declared.moves.MoveKind.TheVariants as moves
use Rattle.h265_model.specs.Plain.{block_at, Size, Picture, leaf_with, ctu_x, ctu_y}
use Rattle.h265_model.specs.Predict.{is_inside}
use Rattle.h265_model.specs.Tree.{is_whole, IsMode, IsTree, IsCodingUnit, AreQuarters, IsLawfulTree}
use Rattle.h265_model.specs.Choice.{intra_cost, modes_of}
use Rattle.h265_model.specs.Motion.{Moving, merge, leaf_as_coded, kind_as_coded, coded_after}
use Rattle.h265_model.specs.MotionChoice.{MovePlan, cheaper, cheapest, best_of, unit_at, one_unit, vectors_of, tried_vectors, is_copy_by, skip_plans, move_plans, intra_plans, unit_plan, no_units, split_plan, plan, moved_choice}
use Rattle.h265_model.proofs.ListParts.{all_append}
use Rattle.h265_laws.proofs.ChoiceLaw.{modes_are}
use Rattle.motion_code.specs.Moves.{IsShort, MayStand, MayAllStand, coded_leaves}

-- ---- the cheapest

cheaper_is : (T : MovePlan → Type 0) (a b : MovePlan) → T a → T b → T (cheaper a b)
cheaper_is T a b ha hb = go (nat_le a.cost b.cost)
  where
    go : (t : Bool) → T (cond t a b)
    go true = ha
    go false = hb

cheapest_is : (T : MovePlan → Type 0) (best : MovePlan) (plans : List MovePlan) → T best → AllByRecursion T plans → T (cheapest best plans)
cheapest_is T best [] h all = h
cheapest_is T best (p ∷ plans) h all = cheapest_is T (cheaper best p) plans (cheaper_is T best p h all.0) all.1

best_is : (T : MovePlan → Type 0) (plans : List MovePlan) (last : MovePlan) → AllByRecursion T plans → T last → T (best_of plans last)
best_is T [] last all h = h
best_is T (p ∷ plans) last all h = cheapest_is T p (plans ++ last ∷ []) all.0 (all_append T plans (last ∷ []) all.1 (h, tt))

-- ---- vectors that are tried

short_vectors : (d : ℕ) → d ≤ 64 → AllByRecursion IsShort (vectors_of d)
short_vectors zero h = (record { x = omega arith; y = omega arith }, (record { x = omega arith; y = omega arith }, (record { x = omega arith; y = omega arith }, (record { x = omega arith; y = omega arith }, tt))))
short_vectors (suc d) h = (record { x = omega arith; y = omega arith }, (record { x = omega arith; y = omega arith }, (record { x = omega arith; y = omega arith }, (record { x = omega arith; y = omega arith }, tt))))

short_from : (a n : ℕ) → a + n ≤ 64 → AllByRecursion IsShort (flat_map (λ d. vectors_of (suc d)) (range_with_len a n))
short_from a zero h = tt
short_from a (suc n) h = all_append IsShort (vectors_of (suc a)) (flat_map (λ d. vectors_of (suc d)) (range_with_len (a + 1) n)) (short_vectors (suc a) (omega arith)) (short_from (a + 1) n (omega arith))

tried_short : AllByRecursion IsShort tried_vectors
unfolding tried_vectors
tried_short = (record { x = omega arith; y = omega arith }, short_from 0 64 (omega arith))

-- ---- one unit

-- a plan of one unit, which may stand
record IsOne (x y log2 : ℕ) (p : MovePlan) : Type 0 where
  kind : MoveKind
  one : p.units ≡ unit_at (block_at x y log2) kind ∷ []
  mode : IsMode (kind_as_coded kind)
  stand : MayStand P kind

module _ (prev now : Picture) (size : Size) (effort : ℕ) (x y log2 : ℕ) where
  AreOnes : List MovePlan → Type 0
  AreOnes plans = AllByRecursion (IsOne x y log2) plans

  skips_are : (before : List Moving) → AreOnes (skip_plans prev now size before (unit_at (block_at x y log2) moves.Skip))
  unfolding AreOnes
  skips_are before = go (is_copy_by prev now size (leaf_as_coded (unit_at (block_at x y log2) moves.Skip)) (merge before (block_at x y log2)))
    where
      go : (t : Bool) → AllByRecursion (IsOne x y log2) (cond t (one_unit 1 (unit_at (block_at x y log2) moves.Skip) ∷ []) [])
      go true = (record { kind = moves.Skip; one = refl; mode = tt; stand = tt }, tt)
      go false = tt

  found_short : (test : Vector → Bool) (vs : List Vector) → AllByRecursion IsShort vs → AllByRecursion IsShort (filter test vs)
  found_short test [] h = tt
  found_short test (v ∷ vs) h = go (test v) (found_short test vs h.1)
    where
      go : (t : Bool) → AllByRecursion IsShort (filter test vs) → AllByRecursion IsShort (cond t (v ∷ filter test vs) (filter test vs))
      go true later = (h.0, later)
      go false later = later

  vectors_are : (vs : List Vector) → AllByRecursion IsShort vs → AreOnes (map (λ v. one_unit 16 (unit_at (block_at x y log2) (moves.Move v))) vs)
  unfolding AreOnes
  vectors_are [] h = tt
  vectors_are (v ∷ vs) h = (record { kind = moves.Move v; one = refl; mode = tt; stand = h.0 }, vectors_are vs h.1)

  moves_are : AreOnes (move_plans prev now size (block_at x y log2))
  unfolding AreOnes
  moves_are =
      let test : Vector → Bool = λ v. is_copy_by prev now size (leaf_as_coded (unit_at (block_at x y log2) (moves.Move v))) v in
      vectors_are (filter test tried_vectors) (found_short test tried_vectors tried_short)

  intra_are : (modes : List ℕ) → AllByRecursion (λ m. m < 35) modes
      → AreOnes (map (λ mode. one_unit (intra_cost size now (leaf_with (block_at x y log2) (Intra mode))) (unit_at (block_at x y log2) (moves.Intra mode))) modes)
  unfolding AreOnes
  intra_are [] h = tt
  intra_are (m ∷ modes) h = (record { kind = moves.Intra m; one = refl; mode = h.0; stand = tt }, intra_are modes h.1)

  unit_is : (before : List Moving) → IsOne x y log2 (unit_plan prev now size effort before (block_at x y log2))
  unfolding unit_plan AreOnes
  unit_is before =
      let skips : List MovePlan = skip_plans prev now size before (unit_at (block_at x y log2) moves.Skip) in
      let moved : List MovePlan = move_plans prev now size (block_at x y log2) in
      best_is (IsOne x y log2) _ _
      (all_append (IsOne x y log2) (skips ++ moved) (intra_plans now size effort (block_at x y log2)) (all_append (IsOne x y log2) skips moved (skips_are before) moves_are) (intra_are (modes_of effort) (modes_are effort)))
      (record { kind = moves.Pcm; one = refl; mode = tt; stand = tt })

-- ---- trees

leaves-append : (a b : List MoveLeaf) → coded_leaves (a ++ b) ≡ coded_leaves a ++ coded_leaves b
leaves-append a b = map-append leaf_as_coded a b

unit_tree : (x y log2 : ℕ) (p : MovePlan) → IsOne x y log2 p → IsCodingUnit (block_at x y log2) (coded_leaves p.units)
unit_tree x y log2 p h = record { kind = kind_as_coded h.kind; one = ap coded_leaves h.one; mode = h.mode }

unit_stands : (x y log2 : ℕ) (p : MovePlan) → IsOne x y log2 p → MayAllStand P p.units
unit_stands x y log2 p h = subst (MayAllStand P) (sym h.one) (h.stand, tt)

module _ (prev now : Picture) (size : Size) (effort : ℕ) where
  -- lawful trees of units that may stand
  Lawful : ℕ → ℕ → ℕ → MovePlan → Type 0
  Lawful depth x y p = IsTree size depth x y (coded_leaves p.units) × MayAllStand P p.units

  plan_is : (depth x y : ℕ) (before : List Moving) → Lawful depth x y (plan prev now size effort depth x y before)
  unfolding Lawful
  plan_is zero x y before = (tree_there (is_inside size x y), stands_there (is_inside size x y))
    where
      one : MovePlan
      one = unit_plan prev now size effort before (block_at x y 3)

      is : IsOne x y 3 one
      is = unit_is prev now size effort x y 3 before

      tree_there : (b : Bool) → MatchBool b (IsCodingUnit (block_at x y 3) (coded_leaves (cond b one no_units).units)) (coded_leaves (cond b one no_units).units ≡ [])
      tree_there true = unit_tree x y 3 one is
      tree_there false = refl

      stands_there : (b : Bool) → MayAllStand P (cond b one no_units).units
      stands_there true = unit_stands x y 3 one is
      stands_there false = tt
  plan_is (suc depth) x y before =
      (tree_there (λ px py b. plan_is depth px py b) (is_inside size x y) (is_whole size (2 * half) x y), stands_there (λ px py b. plan_is depth px py b) (is_inside size x y) (is_whole size (2 * half) x y))
    where
      half : ℕ
      half = 2 ^ (3 + depth)

      go : ℕ → ℕ → List Moving → MovePlan
      go = plan prev now size effort depth

      Lower : Type 0
      Lower = (px py : ℕ) (b : List Moving) → Lawful depth px py (go px py b)

      one : MovePlan
      one = unit_plan prev now size effort before (block_at x y (4 + depth))

      split : MovePlan
      split = split_plan go half x y before

      is : IsOne x y (4 + depth) one
      is = unit_is prev now size effort x y (4 + depth) before

      a : MovePlan
      a = go x y before

      b : MovePlan
      b = go (x + half) y (coded_after before a.units)

      c : MovePlan
      c = go x (y + half) (coded_after before (a.units ++ b.units))

      d : MovePlan
      d = go (x + half) (y + half) (coded_after before ((a.units ++ b.units) ++ c.units))

      four : Lower → AreQuarters (IsTree size depth) half x y (coded_leaves split.units)
      four lower = record {
        first = coded_leaves a.units;
        second = coded_leaves b.units;
        third = coded_leaves c.units;
        fourth = coded_leaves d.units;
        together =
            leaves-append ((a.units ++ b.units) ++ c.units) d.units
            ∙ ap (λ (l : List Leaf). l ++ coded_leaves d.units) (leaves-append (a.units ++ b.units) c.units ∙ ap (λ (l : List Leaf). l ++ coded_leaves c.units) (leaves-append a.units b.units));
        top_left = (lower x y before).0;
        top_right = (lower (x + half) y (coded_after before a.units)).0;
        bottom_left = (lower x (y + half) (coded_after before (a.units ++ b.units))).0;
        bottom_right = (lower (x + half) (y + half) (coded_after before ((a.units ++ b.units) ++ c.units))).0;
      }

      Stands : MoveLeaf → Type 0
      Stands unit = MayStand P unit.kind

      four_stand : Lower → MayAllStand P split.units
      four_stand lower =
          all_append Stands ((a.units ++ b.units) ++ c.units) d.units
          (all_append Stands (a.units ++ b.units) c.units
          (all_append Stands a.units b.units (lower x y before).1 (lower (x + half) y (coded_after before a.units)).1)
          (lower x (y + half) (coded_after before (a.units ++ b.units))).1)
          (lower (x + half) (y + half) (coded_after before ((a.units ++ b.units) ++ c.units))).1

      tree_there : Lower → (p q : Bool)
          → MatchBool p (MatchBool q (IsCodingUnit (block_at x y (4 + depth)) (coded_leaves (cond (not p) no_units (cond (not q) split (cheaper one split))).units) ⊎ AreQuarters (IsTree size depth) half x y (coded_leaves (cond (not p) no_units (cond (not q) split (cheaper one split))).units))
          (AreQuarters (IsTree size depth) half x y (coded_leaves (cond (not p) no_units (cond (not q) split (cheaper one split))).units))) (coded_leaves (cond (not p) no_units (cond (not q) split (cheaper one split))).units ≡ [])
      tree_there lower true true = cheaper_is (λ p. IsCodingUnit (block_at x y (4 + depth)) (coded_leaves p.units) ⊎ AreQuarters (IsTree size depth) half x y (coded_leaves p.units)) one split (inl (unit_tree x y (4 + depth) one is)) (inr (four lower))
      tree_there lower true false = four lower
      tree_there lower false q = refl

      stands_there : Lower → (p q : Bool) → MayAllStand P (cond (not p) no_units (cond (not q) split (cheaper one split))).units
      stands_there lower true true = cheaper_is (λ p. MayAllStand P p.units) one split (unit_stands x y (4 + depth) one is) (four_stand lower)
      stands_there lower true false = four_stand lower
      stands_there lower false q = tt

  pub choice_tree : (before : List Moving) (ctu : ℕ) → IsLawfulTree size ctu (coded_leaves (moved_choice prev now size effort before ctu))
  unfolding moved_choice Lawful
  choice_tree before ctu = (plan_is 2 (ctu_x size ctu) (ctu_y size ctu) before).0

  pub choice_stands : (before : List Moving) (ctu : ℕ) → MayAllStand P (moved_choice prev now size effort before ctu)
  unfolding moved_choice Lawful
  choice_stands before ctu = (plan_is 2 (ctu_x size ctu) (ctu_y size ctu) before).1
