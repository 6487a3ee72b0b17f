-- The predicted block of a slanted mode.
use Rattle.std.proofs.Common.{◌≡◌, refl, sym, ℕ, zero, suc, ◌^◌, ◌<◌, ◌≤◌, Bool, true, false, List, arith}
use Rattle.std.proofs.lemmas.Bool.{le-leb, lt-leb, ne_eqb}
use Rattle.h265_model.proofs.Squares.{same_places}
use Rattle.h265_model.specs.Predict.{square, across, down, directed, is_straight, angular_from, has_edges, predicted, predict}

straight_no : (mode : ℕ) → (mode ≡ 10 → ⊥) → (mode ≡ 26 → ⊥) → is_straight mode ≡ false
straight_no mode a b = rw (ne_eqb mode 10 a, ne_eqb mode 26 b) refl

slanted_from : (main other : ℕ → ℕ) (edges : Bool) (mode x y : ℕ) → is_straight mode ≡ false → angular_from main other edges mode x y ≡ directed main other mode x y
slanted_from main other true mode x y e = rw e refl
slanted_from main other false mode x y e = refl

ahead_at : (mode component log2 : ℕ) (refs : List ℕ) (x y : ℕ) → 18 ≤ mode → (mode ≡ 26 → ⊥)
    → directed (across refs (2 ^ log2)) (down refs (2 ^ log2)) mode x y ≡ predicted mode component log2 refs x y
ahead_at zero component log2 refs x y h s = absurd (omega arith)
ahead_at (suc zero) component log2 refs x y h s = absurd (omega arith)
ahead_at (suc (suc m)) component log2 refs x y h s =
    let e = slanted_from (across refs (2 ^ log2)) (down refs (2 ^ log2)) (has_edges component log2) (suc (suc m)) x y (straight_no (suc (suc m)) (λ q. omega arith) s) in
    rw (le-leb 18 (suc (suc m)) h) (sym e)

turned_at : (mode component log2 : ℕ) (refs : List ℕ) (x y : ℕ) → 2 ≤ mode → mode < 18 → (mode ≡ 10 → ⊥)
    → directed (down refs (2 ^ log2)) (across refs (2 ^ log2)) mode y x ≡ predicted mode component log2 refs x y
turned_at zero component log2 refs x y some h s = absurd (omega arith)
turned_at (suc zero) component log2 refs x y some h s = absurd (omega arith)
turned_at (suc (suc m)) component log2 refs x y some h s =
    let e = slanted_from (down refs (2 ^ log2)) (across refs (2 ^ log2)) (has_edges component log2) (suc (suc m)) y x (straight_no (suc (suc m)) s (λ q. omega arith)) in
    rw (lt-leb 18 (suc (suc m)) h) (sym e)

pub ahead_is : (mode component log2 : ℕ) (refs : List ℕ) → 18 ≤ mode → (mode ≡ 26 → ⊥)
    → square (2 ^ log2) (directed (across refs (2 ^ log2)) (down refs (2 ^ log2)) mode) ≡ predict mode component log2 refs
unfolding predict
ahead_is mode component log2 refs h s =
    same_places (2 ^ log2) (2 ^ log2) (directed (across refs (2 ^ log2)) (down refs (2 ^ log2)) mode) (predicted mode component log2 refs) (λ x y hx hy. ahead_at mode component log2 refs x y h s)

pub turned_is : (mode component log2 : ℕ) (refs : List ℕ) → 2 ≤ mode → mode < 18 → (mode ≡ 10 → ⊥)
    → square (2 ^ log2) (λ x y. directed (down refs (2 ^ log2)) (across refs (2 ^ log2)) mode y x) ≡ predict mode component log2 refs
unfolding predict
turned_is mode component log2 refs some h s =
    same_places (2 ^ log2) (2 ^ log2) (λ x y. directed (down refs (2 ^ log2)) (across refs (2 ^ log2)) mode y x) (predicted mode component log2 refs) (λ x y hx hy. turned_at mode component log2 refs x y some h s)
