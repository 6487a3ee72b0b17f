-- The candidates of modes are three different modes (8.4.2).
use Rattle.std.proofs.Common.{◌≡◌, refl, ℕ, zero, suc, ◌%◌, ◌<◌, List, [], ◌∷◌, Bool, true, false, cond, not, ◌&&◌, length, arith, Some}
use Rattle.std.specs.Prelude.{get_or, nat_lt, ◌==◌, ◌≢◌}
use Rattle.std.proofs.lemmas.Bool.{agree_below, agree_below_at, and_parts, not-true, ltb-true, eqb-true, eqb-false}
use Rattle.h265_model.specs.declared.leaf.Kind.{Kind}
use Rattle.h265_model.specs.declared.leaf.Kind.TheVariants.{Skip, Pcm, Intra}
use Rattle.h265_model.specs.declared.leaf.Leaf.{Leaf}
use Rattle.h265_model.specs.Modes.{candidates, AreThree}
use Rattle.h265_model.specs.Tree.{candidate, candidates_at, mode_of, left_of, above, leaf_at, IsMode, AreModes}
use Rattle.h265_model.specs.Plain.{covers}

candidates_fit : ℕ → ℕ → Bool
unfolding candidates
candidates_fit a b =
    let l : List ℕ = candidates a b in
    let x : ℕ = get_or l 0 0 in
    let y : ℕ = get_or l 1 0 in
    let z : ℕ = get_or l 2 0 in
    (length l == 3) && ((nat_lt x 35 && (nat_lt y 35 && nat_lt z 35)) && (not (x == y) && (not (x == z) && not (y == z))))

-- computed for each pair of modes
candidates_all_fit : agree_below (λ a. agree_below (candidates_fit a) (λ b. true) 35) (λ a. true) 35 ≡ true
unfolding candidates_fit
candidates_all_fit = refl

three_of : (l : List ℕ) → length l ≡ 3 → l ≡ get_or l 0 0 ∷ get_or l 1 0 ∷ get_or l 2 0 ∷ []
three_of [] h = absurd (omega arith)
three_of (a ∷ []) h = absurd (omega arith)
three_of (a ∷ b ∷ []) h = absurd (omega arith)
three_of (a ∷ b ∷ c ∷ []) h = refl
three_of (a ∷ b ∷ c ∷ d ∷ l) h = absurd (omega arith)

differs : (a b : ℕ) → not (a == b) ≡ true → a ≢ b
differs a b h = eqb-false a b (not-true (a == b) h)

-- of two modes that are lawful
pub candidates_are : (a b : ℕ) → a < 35 → b < 35 → AreThree (candidates a b)
unfolding candidates_fit
candidates_are a b ha hb =
    let l : List ℕ = candidates a b in
    let x : ℕ = get_or l 0 0 in
    let y : ℕ = get_or l 1 0 in
    let z : ℕ = get_or l 2 0 in
    let row : agree_below (candidates_fit a) (λ c. true) 35 ≡ true = agree_below_at (λ c. agree_below (candidates_fit c) (λ d. true) 35) (λ c. true) 35 a candidates_all_fit ha in
    let cell : ((length l == 3) && ((nat_lt x 35 && (nat_lt y 35 && nat_lt z 35)) && (not (x == y) && (not (x == z) && not (y == z))))) ≡ true = agree_below_at (candidates_fit a) (λ c. true) 35 b row hb in
    let p : ((length l == 3) ≡ true) × (((nat_lt x 35 && (nat_lt y 35 && nat_lt z 35)) && (not (x == y) && (not (x == z) && not (y == z)))) ≡ true) = and_parts _ _ cell in
    let q : ((nat_lt x 35 && (nat_lt y 35 && nat_lt z 35)) ≡ true) × ((not (x == y) && (not (x == z) && not (y == z))) ≡ true) = and_parts _ _ p.1 in
    let q1 : (nat_lt x 35 ≡ true) × ((nat_lt y 35 && nat_lt z 35) ≡ true) = and_parts _ _ q.0 in
    let q2 : (nat_lt y 35 ≡ true) × (nat_lt z 35 ≡ true) = and_parts _ _ q1.1 in
    let r1 : (not (x == y) ≡ true) × ((not (x == z) && not (y == z)) ≡ true) = and_parts _ _ q.1 in
    let r2 : (not (x == z) ≡ true) × (not (y == z) ≡ true) = and_parts _ _ r1.1 in
    record {
      first = x;
      second = y;
      third = z;
      is = three_of l (eqb-true _ _ p.0);
      are = record {
        first = ltb-true _ _ q1.0;
        second = ltb-true _ _ q2.0;
        third = ltb-true _ _ q2.1;
        a_b = differs x y r1.0;
        a_c = differs x z r2.0;
        b_c = differs y z r2.1;
      };
    }

pub mode_bound : (k : Kind) → IsMode k → mode_of k < 35
mode_bound Skip h = omega arith
mode_bound Pcm h = omega arith
mode_bound (Intra mode) h = h

candidate_bound : (leaves : List Leaf) (x y : ℕ) → AreModes leaves → candidate (leaf_at leaves x y) < 35
candidate_bound [] x y h = omega arith
candidate_bound (leaf ∷ leaves) x y h = go (covers x y leaf) (candidate_bound leaves x y h.1)
  where
    go : (b : Bool) → candidate (leaf_at leaves x y) < 35 → candidate (cond b (Some leaf) (leaf_at leaves x y)) < 35
    go true k = mode_bound leaf.kind h.0
    go false k = k

left_bound : (leaves : List Leaf) (x y : ℕ) → AreModes leaves → candidate (left_of leaves x y) < 35
left_bound leaves zero y h = omega arith
left_bound leaves (suc x) y h = candidate_bound leaves x y h

above_bound : (leaves : List Leaf) (x y : ℕ) → AreModes leaves → candidate (above leaves x y) < 35
above_bound leaves x zero h = omega arith
above_bound leaves x (suc y) h = candidate_bound leaves x y h

-- of modes that are lawful the candidates are three
pub candidates_at_are : (leaves : List Leaf) (x y : ℕ) → AreModes leaves → AreThree (candidates_at leaves x y)
unfolding candidates_at
candidates_at_are leaves x y h = candidates_are _ _ (left_bound leaves x y h) (go (y % 32 == 0))
  where
    go : (b : Bool) → cond b 1 (candidate (above leaves x y)) < 35
    go true = omega arith
    go false = above_bound leaves x y h
