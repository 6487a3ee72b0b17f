-- The flags of coded sub-blocks, by their places and in a list.
use Rattle.std.proofs.Common.{◌≡◌, ◌≢◌, refl, sym, ◌∙◌, ap, ℕ, zero, suc, ◌+◌, ◌-◌, ◌^◌, ◌<◌, ◌≤◌, Bool, false, inl, inr, List, [], ◌∷◌, length, get_or, set, replicate, get_or-set_other, get_or-set_same, arith}
use Rattle.std.proofs.Math.Nat.{eq-or-lt_of_le}
use Rattle.h265_model.specs.Residual as residual
use Rattle.h265_model.specs.Residual.{number_of, place_at, scan, sub_scan, sub_at, Sub}
use Rattle.scan_orders.specs.Marks.{AreMarks, mark_place}
use Rattle.scan_orders.proofs.ScanPlaces.{IsPlaced, placed, number_found, scan_long}

all_false : (n i : ℕ) → get_or (replicate n false) i false ≡ false
all_false zero i = refl
all_false (suc n) zero = refl
all_false (suc n) (suc i) = all_false n i

pub marks_none : (s : residual.Shape) (number : ℕ) → AreMarks s number [] (replicate 81 false)
marks_none s number = record { each = λ x y wide tall h. all_false 81 (mark_place x y) }

-- what is known of a sub-block's place
pub record IsSub (s : residual.Shape) (number x y : ℕ) : Type 0 where
  pub numbered : number_of x y (sub_scan s) ≡ number
  pub wide : x < 8
  pub tall : y < 8
  pub right : number + 1 ≤ number_of (x + 1) y (sub_scan s)
  pub below : number + 1 ≤ number_of x (y + 1) (sub_scan s)

side_low : (log2 n : ℕ) → log2 ≤ 3 → n < 2 ^ log2 → n < 8
side_low zero n h k = omega arith
side_low (suc zero) n h k = omega arith
side_low (suc (suc zero)) n h k = omega arith
side_low (suc (suc (suc zero))) n h k = omega arith
side_low (suc (suc (suc (suc m)))) n h k = absurd (omega arith)

pub is_sub : (s : residual.Shape) (number x y : ℕ) → 3 ≤ s.log2 → s.log2 ≤ 5 → number < 4 ^ (s.log2 - 2) → x ≡ (place_at (sub_scan s) number).0 → y ≡ (place_at (sub_scan s) number).1 → IsSub s number x y
is_sub s number x y low high h e f =
    let p : IsPlaced s.scan (s.log2 - 2) number = placed s.scan (s.log2 - 2) number (omega arith) (omega arith) h in
    let r : number < number_of ((place_at (sub_scan s) number).0 + 1) (place_at (sub_scan s) number).1 (sub_scan s) = p.right in
    let b : number < number_of (place_at (sub_scan s) number).0 ((place_at (sub_scan s) number).1 + 1) (sub_scan s) = p.below in
    rw (e, f) (record {
      numbered = p.number;
      wide = side_low (s.log2 - 2) _ (omega arith) p.x;
      tall = side_low (s.log2 - 2) _ (omega arith) p.y;
      right = omega arith;
      below = omega arith;
    })

less_twice : (a b : ℕ) → a - (b + 1) ≡ a - b - 1
less_twice a b = omega arith

pub sub_known : (s : residual.Shape) (number x y : ℕ) (flags marks : List Bool) (b : Sub) → IsSub s number x y → x ≡ (place_at (sub_scan s) number).0 → y ≡ (place_at (sub_scan s) number).1
    → b.number ≡ number → b.right ≡ get_or marks (mark_place (x + 1) y) false → b.below ≡ get_or marks (mark_place x (y + 1)) false
    → AreMarks s (number + 1) flags marks → b ≡ sub_at s number flags
sub_known s number x y flags marks b at ex ey n r l are =
    let wide : x < 8 = at.wide in
    let tall : y < 8 = at.tall in
    let right : b.right ≡ get_or flags (number_of (x + 1) y (sub_scan s) - number - 1) false =
    r ∙ (are.each (x + 1) y (omega arith) (omega arith) at.right ∙ ap (λ i. get_or flags i false) (less_twice (number_of (x + 1) y (sub_scan s)) number)) in
    let below : b.below ≡ get_or flags (number_of x (y + 1) (sub_scan s) - number - 1) false =
    l ∙ (are.each x (y + 1) (omega arith) (omega arith) at.below ∙ ap (λ i. get_or flags i false) (less_twice (number_of x (y + 1) (sub_scan s)) number)) in
    rw (n, right, below, ex, ey) refl

-- a place by its row and column
same_place : (x y a b : ℕ) → x < 9 → a < 9 → mark_place x y ≡ mark_place a b → (x ≡ a) × (y ≡ b)
same_place x y a b h k e = (omega arith, omega arith)

later_index : (n number : ℕ) → number + 1 ≤ n → n - number ≡ suc (n - (number + 1))
later_index n number h = omega arith

pub marks_more : (s : residual.Shape) (number x y : ℕ) (flags marks : List Bool) (flag : Bool) → 3 ≤ s.log2 → s.log2 ≤ 5 → number < 4 ^ (s.log2 - 2) → IsSub s number x y
    → x ≡ (place_at (sub_scan s) number).0 → y ≡ (place_at (sub_scan s) number).1 → length marks ≡ 81
    → AreMarks s (number + 1) flags marks → AreMarks s number (flag ∷ flags) (set marks (mark_place x y) flag)
marks_more s number x y flags marks flag low high few at ex ey long are = record {
  each = λ a b wide tall h. elim (eq-or-lt_of_le h) [
    | inl e ↦ here a b e
    | inr later ↦ other a b wide tall (omega arith)
  ];
}
  where
    here : (a b : ℕ) → number ≡ number_of a b (sub_scan s) → get_or (set marks (mark_place x y) flag) (mark_place a b) false ≡ get_or (flag ∷ flags) (number_of a b (sub_scan s) - number) false
    here a b e =
        let l : length (sub_scan s) ≡ 4 ^ (s.log2 - 2) = scan_long s.scan (s.log2 - 2) (omega arith) (omega arith) in
        let f : number < 4 ^ (s.log2 - 2) = few in
        let p : place_at (sub_scan s) (number_of a b (sub_scan s)) ≡ (a, b) = number_found a b (sub_scan s) (omega arith) in
        let q : place_at (sub_scan s) number ≡ (a, b) = ap (place_at (sub_scan s)) e ∙ p in
        let xa : x ≡ a = ex ∙ ap (λ (c : ℕ × ℕ). c.0) q in
        let yb : y ≡ b = ey ∙ ap (λ (c : ℕ × ℕ). c.1) q in
        let wide : x < 8 = at.wide in
        let tall : y < 8 = at.tall in
        let z : number_of a b (sub_scan s) - number ≡ 0 = omega arith in
        rw (z, ← xa, ← yb) (get_or-set_same marks (mark_place x y) flag false (omega arith))

    other : (a b : ℕ) → a < 9 → b < 9 → number + 1 ≤ number_of a b (sub_scan s) → get_or (set marks (mark_place x y) flag) (mark_place a b) false ≡ get_or (flag ∷ flags) (number_of a b (sub_scan s) - number) false
    other a b wide tall later =
        let wx : x < 8 = at.wide in
        let ne : mark_place a b ≢ mark_place x y = λ e.
        let p : (a ≡ x) × (b ≡ y) = same_place a b x y wide (omega arith) e in
        let n : number_of a b (sub_scan s) ≡ number = ap (λ k. number_of k b (sub_scan s)) p.0 ∙ (ap (λ k. number_of x k (sub_scan s)) p.1 ∙ at.numbered) in
        omega arith in
        get_or-set_other marks (mark_place x y) (mark_place a b) flag false ne
        ∙ (are.each a b wide tall later ∙ ap (λ i. get_or (flag ∷ flags) i false) (sym (later_index (number_of a b (sub_scan s)) number later)))
