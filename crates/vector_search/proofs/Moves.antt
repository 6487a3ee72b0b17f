-- Squares that are moved by a vector, and blocks that are made of them.
use Rattle.std.proofs.Common.{◌≡◌, refl, ℕ, suc, ◌+◌, ◌-◌, ◌*◌, ◌/◌, ◌%◌, ◌<◌, ◌≤◌, Bool, true, false, List, get_or, set, length, arith, inl, inr}
use Rattle.std.specs.Prelude.{◌↔◌, IsTrue, Option, Some, None, ℤ, pos, negsuc, cond}
use Rattle.std.proofs.lemmas.Bool.{and_parts, and_from, le-leb, leb-true, cases_eq}
use Rattle.std.proofs.lemmas.List.{get_or-set_same, get_or-set_other}
use Rattle.h265_model.specs.declared.moves.Vector.{Vector}
use Rattle.h265_model.specs.Plain.{Size, Picture, coded}
use Rattle.h265_model.specs.Motion.{moved, reaches}
use Rattle.vector_search.specs.Copies.{tried, source_of, AreSameRows, IsMoved, TellsFirst, AreAllMoved}

-- ---- along one axis

reach_from : (limit n x m : ℕ) (v : ℤ) → v ≡ pos m → x + m + n ≤ limit → reaches limit n x v ≡ true
reach_from limit n x m v e h = rw e (le-leb (x + m + n) limit h)

-- what a source needs
pub reach_parts : (limit n x : ℕ) (v : ℤ) → reaches limit n x v ≡ true → moved x v + n ≤ limit
reach_parts limit n x (pos m) h = leb-true (x + m + n) limit h
reach_parts limit n x (negsuc m) h = leb-true (x - suc m + n) limit (and_parts _ _ h).1

-- a place further on has its source as far on
pub moved_part : (limit n x a : ℕ) (v : ℤ) → reaches limit n x v ≡ true → moved (x + a) v ≡ moved x v + a
moved_part limit n x a (pos m) h = omega arith
moved_part limit n x a (negsuc m) h = let low : suc m ≤ x = leb-true (suc m) x (and_parts _ _ h).0 in omega arith

-- part of what has a source has one
pub reach_part : (limit n x a k : ℕ) (v : ℤ) → reaches limit n x v ≡ true → a + k ≤ n → reaches limit k (x + a) v ≡ true
reach_part limit n x a k (pos m) h within = let most : x + m + n ≤ limit = leb-true (x + m + n) limit h in le-leb (x + a + m + k) limit (omega arith)
reach_part limit n x a k (negsuc m) h within =
    let parts = and_parts _ _ h in
    let low : suc m ≤ x = leb-true (suc m) x parts.0 in
    let most : x - suc m + n ≤ limit = leb-true (x - suc m + n) limit parts.1 in
    and_from _ _ (le-leb (suc m) (x + a) (omega arith)) (le-leb (x + a - suc m + k) limit (omega arith))

-- what begins and ends with parts that have a source has one
pub reach_whole : (limit n x a k : ℕ) (v : ℤ) → reaches limit k x v ≡ true → reaches limit k (x + a) v ≡ true → n ≡ a + k → reaches limit n x v ≡ true
reach_whole limit n x a k (pos m) first last e =
    let most : x + a + m + k ≤ limit = leb-true (x + a + m + k) limit last in
    le-leb (x + m + n) limit (omega arith)
reach_whole limit n x a k (negsuc m) first last e =
    let low : suc m ≤ x = leb-true (suc m) x (and_parts _ _ first).0 in
    let most : x + a - suc m + k ≤ limit = leb-true (x + a - suc m + k) limit (and_parts _ _ last).1 in
    and_from _ _ (le-leb (suc m) x low) (le-leb (x - suc m + n) limit (omega arith))

-- ---- what a source is

pub source_some : (limit n x : ℕ) (v : ℤ) (from : ℕ) → source_of limit n x v ≡ Some from → (reaches limit n x v ≡ true) × (moved x v ≡ from)
source_some limit n x v from e = go (reaches limit n x v) refl
  where
    go : (b : Bool) → reaches limit n x v ≡ b → (reaches limit n x v ≡ true) × (moved x v ≡ from)
    go true is = (is, let s : cond true (Some (moved x v)) None ≡ Some from = rw is at e in cc)
    go false is = let s : cond {A = Option ℕ} false (Some (moved x v)) None ≡ Some from = rw is at e in absurd (cc)

-- ---- blocks of squares

-- the square of a block that has this place, and the block
square_of : (p q : Picture) (size : Size) (x y n a b : ℕ) (v : Vector) → IsMoved p q size x y n v → a + 8 ≤ n → b + 8 ≤ n → IsMoved p q size (x + a) (y + b) 8 v
square_of p q size x y n a b v is ha hb =
    let ex : moved (x + a) v.x ≡ moved x v.x + a = moved_part (coded size.w) n x a v.x is.across in
    let ey : moved (y + b) v.y ≡ moved y v.y + b = moved_part (coded size.h) n y b v.y is.down in
    record {
      across = reach_part (coded size.w) n x a 8 v.x is.across ha;
      down = reach_part (coded size.h) n y b 8 v.y is.down hb;
      same = λ c hc. record {
        each = λ i j hi hj.
            let from_x : moved x v.x + a + i ≡ moved x v.x + (a + i) = omega arith in
            let from_y : moved y v.y + b + j ≡ moved y v.y + (b + j) = omega arith in
            let to_x : x + a + i ≡ x + (a + i) = omega arith in
            let to_y : y + b + j ≡ y + (b + j) = omega arith in
            rw (ex, ey, from_x, from_y, to_x, to_y) ((is.same c hc).each (a + i) (b + j) (omega arith) (omega arith));
      };
    }

-- a block is moved where all its squares are
block_of : (p q : Picture) (size : Size) (x y side : ℕ) (v : Vector) → 1 ≤ side
    → ((u w : ℕ) → u < side → w < side → IsMoved p q size (x + u * 8) (y + w * 8) 8 v) → IsMoved p q size x y (side * 8) v
block_of p q size x y side v some each =
    let first : IsMoved p q size x y 8 v = (let z = each 0 0 (omega arith) (omega arith) in let ex : x + 0 * 8 ≡ x = omega arith in let ey : y + 0 * 8 ≡ y = omega arith in rw (ex, ey) at z) in
    let last : IsMoved p q size (x + (side - 1) * 8) (y + (side - 1) * 8) 8 v = each (side - 1) (side - 1) (omega arith) (omega arith) in
    let across : reaches (coded size.w) (side * 8) x v.x ≡ true = reach_whole (coded size.w) (side * 8) x ((side - 1) * 8) 8 v.x first.across last.across (omega arith) in
    let down : reaches (coded size.h) (side * 8) y v.y ≡ true = reach_whole (coded size.h) (side * 8) y ((side - 1) * 8) 8 v.y first.down last.down (omega arith) in
    record {
      across = across;
      down = down;
      same = λ c hc. record {
        each = λ i j hi hj.
            let s : IsMoved p q size (x + i / 8 * 8) (y + j / 8 * 8) 8 v = each (i / 8) (j / 8) (omega arith) (omega arith) in
            let ex : moved (x + i / 8 * 8) v.x ≡ moved x v.x + i / 8 * 8 = moved_part (coded size.w) (side * 8) x (i / 8 * 8) v.x across in
            let ey : moved (y + j / 8 * 8) v.y ≡ moved y v.y + j / 8 * 8 = moved_part (coded size.h) (side * 8) y (j / 8 * 8) v.y down in
            let from_x : moved x v.x + i / 8 * 8 + i % 8 ≡ moved x v.x + i = omega arith in
            let from_y : moved y v.y + j / 8 * 8 + j % 8 ≡ moved y v.y + j = omega arith in
            let to_x : x + i / 8 * 8 + i % 8 ≡ x + i = omega arith in
            let to_y : y + j / 8 * 8 + j % 8 ≡ y + j = omega arith in
            rw (ex, ey, from_x, from_y, to_x, to_y) at ((s.same c hc).each (i % 8) (j % 8) (omega arith) (omega arith));
      };
    }

-- ---- the answers of squares

-- what is told of one square
told : (equal : List Bool) (p q : Picture) (size : Size) (tx ty number i j : ℕ) → TellsFirst equal p q size tx ty 4112 → number < 257 → i < 4 → j < 4
    → tx + i * 8 < coded size.w → ty + j * 8 < coded size.h
    → IsTrue (get_or equal (16 * number + (4 * j + i)) false) ↔ IsMoved p q size (tx + i * 8) (ty + j * 8) 8 (tried number)
told equal p q size tx ty number i j tells hn hi hj hx hy =
    let column : (16 * number + (4 * j + i)) % 4 ≡ i = omega arith in
    let row : (16 * number + (4 * j + i)) / 4 % 4 ≡ j = omega arith in
    let which : (16 * number + (4 * j + i)) / 16 ≡ number = omega arith in
    rw (column, row, which) at (tells.each (16 * number + (4 * j + i)) (omega arith) (rw column hx) (rw row hy))

-- a block of whole squares is moved exactly where each of them is
pub all_moved : (equal : List Bool) (p q : Picture) (size : Size) (tx ty x y number i j side n : ℕ) → TellsFirst equal p q size tx ty 4112 → number < 257
    → x ≡ tx + i * 8 → y ≡ ty + j * 8 → n ≡ side * 8 → 1 ≤ side → i + side ≤ 4 → j + side ≤ 4 → x + n ≤ coded size.w → y + n ≤ coded size.h
    → AreAllMoved equal number i j side side → IsMoved p q size x y n (tried number)
all_moved equal p q size tx ty x y number i j side n tells hn ex ey en some hi hj hx hy all =
    rw en (block_of p q size x y side (tried number) some (λ u w hu hw.
    let column : tx + (i + u) * 8 ≡ x + u * 8 = omega arith in
    let row : ty + (j + w) * 8 ≡ y + w * 8 = omega arith in
    rw (column, row) at ((told equal p q size tx ty number (i + u) (j + w) tells hn (omega arith) (omega arith) (omega arith) (omega arith)).0 (all.each u w hu hw))))

pub moved_all : (equal : List Bool) (p q : Picture) (size : Size) (tx ty x y number i j side n : ℕ) → TellsFirst equal p q size tx ty 4112 → number < 257
    → x ≡ tx + i * 8 → y ≡ ty + j * 8 → n ≡ side * 8 → i + side ≤ 4 → j + side ≤ 4 → x + n ≤ coded size.w → y + n ≤ coded size.h
    → IsMoved p q size x y n (tried number) → AreAllMoved equal number i j side side
moved_all equal p q size tx ty x y number i j side n tells hn ex ey en hi hj hx hy is = record {
  each = λ u w hu hw.
      let column : x + u * 8 ≡ tx + (i + u) * 8 = omega arith in
      let row : y + w * 8 ≡ ty + (j + w) * 8 = omega arith in
      (told equal p q size tx ty number (i + u) (j + w) tells hn (omega arith) (omega arith) (omega arith) (omega arith)).1
      (rw (column, row) at (square_of p q size x y n (u * 8) (w * 8) (tried number) is (omega arith) (omega arith)));
}

-- ---- one more square is compared

pub first_none : (equal : List Bool) (p q : Picture) (size : Size) (x y : ℕ) → TellsFirst equal p q size x y 0
first_none equal p q size x y = record { each = λ k h. absurd (omega arith) }

pub first_more : (equal : List Bool) (p q : Picture) (size : Size) (x y n : ℕ) (b : Bool) → TellsFirst equal p q size x y n → n < length equal
    → IsTrue b ↔ IsMoved p q size (x + n % 4 * 8) (y + n / 4 % 4 * 8) 8 (tried (n / 16)) → TellsFirst (set equal n b) p q size x y (n + 1)
first_more equal p q size x y n b known within is = record { each = at_each }
  where
    at_each : (k : ℕ) → k < n + 1 → x + k % 4 * 8 < coded size.w → y + k / 4 % 4 * 8 < coded size.h
        → IsTrue (get_or (set equal n b) k false) ↔ IsMoved p q size (x + k % 4 * 8) (y + k / 4 % 4 * 8) 8 (tried (k / 16))
    at_each k h hx hy = elim (cases_eq k n) [
      | inl same ↦ rw (same, get_or-set_same equal n b false within) is
      | inr other ↦ rw (get_or-set_other equal n k b false other) (known.each k (omega arith) hx hy)
    ]

pub first_beyond : (equal : List Bool) (p q : Picture) (size : Size) (x y n : ℕ) → TellsFirst equal p q size x y n
    → (x + n % 4 * 8 < coded size.w → y + n / 4 % 4 * 8 < coded size.h → ⊥) → TellsFirst equal p q size x y (n + 1)
first_beyond equal p q size x y n known beyond = record { each = at_each }
  where
    at_each : (k : ℕ) → k < n + 1 → x + k % 4 * 8 < coded size.w → y + k / 4 % 4 * 8 < coded size.h
        → IsTrue (get_or equal k false) ↔ IsMoved p q size (x + k % 4 * 8) (y + k / 4 % 4 * 8) 8 (tried (k / 16))
    at_each k h hx hy = elim (cases_eq k n) [
      | inl same ↦ absurd (beyond (rw same at hx) (rw same at hy))
      | inr other ↦ known.each k (omega arith) hx hy
    ]

-- ---- an answer from the sources along both axes

pub moved_from : (p q : Picture) (size : Size) (x y n : ℕ) (v : Vector) (w h from_x from_y : ℕ) (b : Bool) → w ≡ coded size.w → h ≡ coded size.h
    → source_of w n x v.x ≡ Some from_x → source_of h n y v.y ≡ Some from_y
    → IsTrue b ↔ ((c : ℕ) → c < 3 → AreSameRows p q c from_x from_y x y n n) → IsTrue b ↔ IsMoved p q size x y n v
moved_from p q size x y n v w h from_x from_y b ew eh sx sy is =
    let column = source_some w n x v.x from_x sx in
    let row = source_some h n y v.y from_y sy in (
      λ yes. record {
        across = rw (← ew) column.0;
        down = rw (← eh) row.0;
        same = λ c hc. rw (column.1, row.1) (is.0 yes c hc);
      },
      λ moves. is.1 (λ c hc. rw (column.1, row.1) at (moves.same c hc)),
    )
