-- Blocks that are compared position by position, in rows.
use Rattle.std.proofs.Common.{◌≡◌, sym, ◌∙◌, ap, ℕ, zero, suc, ◌+◌, ◌*◌, ◌/◌, ◌%◌, ◌<◌, ◌≤◌, Bool, true, false, List, [], ◌∷◌, length, get_or, map, inl, inr, arith, mod-lt}
use Rattle.std.specs.Prelude.{eqb}
use Rattle.std.proofs.lemmas.Bool.{and_parts, and_from, eqb-true, eq-eqb, cases_order, cases_lt, false≢true}
use Rattle.std.proofs.lemmas.Nat.{div-add-mod', div_below, mul-le}
use Rattle.std.proofs.lemmas.List.FromFn.{get_or-map-range_with_len}
use Rattle.h265_model.specs.Plain.{Picture, place_values, below}
use Rattle.h265_model.specs.declared.rect.Rect.{Rect}
use Rattle.px_plane.specs.declared.compare.RowPart.{RowPart}
use Rattle.px_plane.specs.Blocks.{same_at, same_places, compared, IsSameBlock, IsRowPart, IsFront, row_same}
use Rattle.h265_model.proofs.Squares.{length_places, at_places}

-- ---- one position

-- all samples of a place, and the test of them
pub same_from : (p q : Picture) (x y : ℕ) → ((c : ℕ) → c < 3 → p c x y ≡ q c x y) → same_at p q x y ≡ true
same_from p q x y each =
    and_from _ _ (eq-eqb _ _ (each 0 (omega arith))) (and_from _ _ (eq-eqb _ _ (each 1 (omega arith))) (eq-eqb _ _ (each 2 (omega arith))))

pub from_same : (p q : Picture) (x y : ℕ) → same_at p q x y ≡ true → (c : ℕ) → c < 3 → p c x y ≡ q c x y
from_same p q x y same zero h = eqb-true _ _ (and_parts (eqb (p 0 x y) (q 0 x y)) _ same).0
from_same p q x y same (suc zero) h = eqb-true _ _ (and_parts (eqb (p 1 x y) (q 1 x y)) _ (and_parts (eqb (p 0 x y) (q 0 x y)) _ same).1).0
from_same p q x y same (suc (suc zero)) h = eqb-true _ _ (and_parts (eqb (p 1 x y) (q 1 x y)) _ (and_parts (eqb (p 0 x y) (q 0 x y)) _ same).1).1
from_same p q x y same (suc (suc (suc c))) h = absurd (omega arith)

-- a position of two rows is one of the pictures
pub row_same_is : (p q : Picture) (x y n : ℕ) (a b : RowPart) → IsRowPart p x y n a → IsRowPart q x y n b → (i : ℕ) → i < n → row_same a b i ≡ same_at p q (x + i) y
row_same_is p q x y n a b is like i h =
    let g = is.g i h in
    let b = is.b i h in
    let r = is.r i h in
    let g' = like.g i h in
    let b' = like.b i h in
    let r' = like.r i h in
    cc

-- a row as it is lent is the samples of its places
pub row_reads : (row : List ℕ) (f : ℕ → ℕ) (n : ℕ) → row ≡ map f (below n) → (i : ℕ) → i < n → get_or row i 0 ≡ f i
row_reads row f n is i h = ap (λ (l : List ℕ). get_or l i 0) is ∙ get_or-map-range_with_len f 0 n i i 0 h (omega arith)

-- ---- lists of answers

compared_at : (list : List Bool) (i : ℕ) → i < length list → ((k : ℕ) → k < i → get_or list k false ≡ true) → get_or list i true ≡ false → compared list ≡ i + 1
compared_at [] i h same differs = absurd (omega arith)
compared_at (s ∷ list) zero h same differs = rw differs (omega arith)
compared_at (s ∷ list) (suc i) h same differs =
    let first : s ≡ true = same 0 (omega arith) in
    let others : compared list ≡ i + 1 = compared_at list i (omega arith) (λ k less. same (suc k) (omega arith)) differs in
    rw first (omega arith)

compared_all : (list : List Bool) → ((k : ℕ) → k < length list → get_or list k false ≡ true) → compared list ≡ length list
compared_all [] same = omega arith
compared_all (s ∷ list) same =
    let first : s ≡ true = same 0 (omega arith) in
    let others : compared list ≡ length list = compared_all list (λ k less. same (suc k) (omega arith)) in
    rw first (omega arith)

compared_most : (list : List Bool) → compared list ≤ length list
compared_most [] = omega arith
compared_most (true ∷ list) = let others = compared_most list in omega arith
compared_most (false ∷ list) = omega arith

-- ---- rows of answers

-- the answers before a place, where the rows before its own and the row up to it are true
rows_before : (w h f y : ℕ) (s : ℕ → ℕ → Bool) → y < h → f < w
    → ((x j : ℕ) → x < w → j < y → s x j ≡ true) → ((x : ℕ) → x < f → s x y ≡ true)
    → (k : ℕ) → k < y * w + f → get_or (place_values w h s) k false ≡ true
rows_before w h f y s hy hf above before k less =
    let some : 0 < w = omega arith in
    let m : k % w < w = mod-lt k some in
    let split : k / w * w + k % w ≡ k = div-add-mod' k w in
    ap (λ (i : ℕ). get_or (place_values w h s) i false) (sym split)
    ∙ elim (cases_order (k / w) y) [
      | inl same ↦
          let here : k % w < f = let e : k / w * w ≡ y * w = ap (λ (n : ℕ). n * w) same in omega arith in
          at_places w h (k % w) (k / w) s false m (omega arith) ∙ (ap (s (k % w)) same ∙ before (k % w) here)
      | inr (inl lower) ↦ at_places w h (k % w) (k / w) s false m (omega arith) ∙ above (k % w) (k / w) m lower
      | inr (inr higher) ↦ absurd (let more : (y + 1) * w ≤ k / w * w = mul-le (y + 1) w (k / w) w (omega arith) (omega arith) in omega arith)
    ]

-- what is compared up to the first position that differs
compared_up_to : (p q : Picture) (r : Rect) (y f : ℕ) → y < r.h → f < r.w
    → ((x j : ℕ) → x < r.w → j < y → same_at p q (r.x + x) (r.y + j) ≡ true) → ((x : ℕ) → x < f → same_at p q (r.x + x) (r.y + y) ≡ true)
    → same_at p q (r.x + f) (r.y + y) ≡ false → compared (same_places p q r) ≡ y * r.w + f + 1
compared_up_to p q r y f hy hf above before differs =
    let s : ℕ → ℕ → Bool = λ x y. same_at p q (r.x + x) (r.y + y) in
    let long : length (place_values r.w r.h s) ≡ r.h * r.w = length_places r.w r.h s in
    let within : y * r.w + f < r.h * r.w = let h : (y + 1) * r.w ≤ r.h * r.w = mul-le (y + 1) r.w r.h r.w (omega arith) (omega arith) in omega arith in
    compared_at (place_values r.w r.h s) (y * r.w + f) (omega arith) (rows_before r.w r.h f y s hy hf above before)
    (at_places r.w r.h f y s true hf hy ∙ differs)

-- all positions are compared where none differs
compared_to_end : (p q : Picture) (r : Rect) → ((x j : ℕ) → x < r.w → j < r.h → same_at p q (r.x + x) (r.y + j) ≡ true) → compared (same_places p q r) ≡ r.h * r.w
compared_to_end p q r same =
    let s : ℕ → ℕ → Bool = λ x y. same_at p q (r.x + x) (r.y + y) in
    let long : length (place_values r.w r.h s) ≡ r.h * r.w = length_places r.w r.h s in
    compared_all (place_values r.w r.h s) (λ k less.
    let inside : k < r.h * r.w = omega arith in
    let some : 0 < r.w = positive r.h r.w k inside in
    let m : k % r.w < r.w = mod-lt k some in
    let row : k / r.w < r.h = div_below k r.w r.h some inside in
    ap (λ (i : ℕ). get_or (place_values r.w r.h s) i false) (sym (div-add-mod' k r.w)) ∙ (at_places r.w r.h (k % r.w) (k / r.w) s false m row ∙ same (k % r.w) (k / r.w) m row))
    ∙ long
  where
    positive : (h w k : ℕ) → k < h * w → 0 < w
    positive h zero k less = absurd (omega arith)
    positive h (suc w) k less = omega arith

compared_at_most : (p q : Picture) (r : Rect) → compared (same_places p q r) ≤ r.w * r.h
compared_at_most p q r =
    let s : ℕ → ℕ → Bool = λ x y. same_at p q (r.x + x) (r.y + y) in
    let long : length (place_values r.w r.h s) ≡ r.h * r.w = length_places r.w r.h s in
    let most : compared (same_places p q r) ≤ length (place_values r.w r.h s) = compared_most (place_values r.w r.h s) in
    let turned : r.h * r.w ≡ r.w * r.h = omega arith in
    omega arith

pub counted_at_most : (p q : Picture) (r : Rect) (before after : ℕ) → after ≡ before + compared (same_places p q r) → after ≤ before + r.w * r.h
counted_at_most p q r before after counted = let most = compared_at_most p q r in omega arith

-- ---- a loop over rows

-- the first y rows of a rectangle are the same in both pictures, and each of their positions was counted
pub record AreRowsSame (p q : Picture) (r : Rect) (y before now : ℕ) : Type 0 where
  pub same : (x j : ℕ) → x < r.w → j < y → same_at p q (r.x + x) (r.y + j) ≡ true
  pub ticks : now ≡ before + y * r.w

-- the row y of a rectangle in both pictures, and how much of its front is the same
pub record IsRowCompared (p q : Picture) (r : Rect) (y front : ℕ) : Type 0 where
  pub same : (x : ℕ) → x < front → same_at p q (r.x + x) (r.y + y) ≡ true
  pub differs : front < r.w → same_at p q (r.x + front) (r.y + y) ≡ false

pub row_compared : (p q : Picture) (r : Rect) (y x j n front : ℕ) (a b : RowPart) → x ≡ r.x → j ≡ r.y + y → n ≡ r.w
    → IsRowPart p x j n a → IsRowPart q x j n b → IsFront a b n front → IsRowCompared p q r y front
row_compared p q r y x j n front a b left row wide is like front_is = record {
  same = λ i less. at i (let within : front ≤ n = front_is.within in omega arith) ∙ front_is.same i less;
  differs = λ less. let short : front < n = omega arith in at front short ∙ front_is.differs short;
}
  where
    at : (i : ℕ) → i < n → same_at p q (r.x + i) (r.y + y) ≡ row_same a b i
    at i h = ap (λ (k : ℕ). same_at p q (k + i) (r.y + y)) (sym left) ∙ (ap (λ (k : ℕ). same_at p q (x + i) k) (sym row) ∙ sym (row_same_is p q x j n a b is like i h))

pub rows_same_none : (p q : Picture) (r : Rect) (before : ℕ) → AreRowsSame p q r 0 before before
rows_same_none p q r before = record { same = λ x j h none. absurd (omega arith); ticks = omega arith }

pub rows_same_more : (p q : Picture) (r : Rect) (y next before now after front : ℕ) → AreRowsSame p q r y before now → IsRowCompared p q r y front → r.w ≤ front
    → after ≡ now + r.w → next ≡ y + 1 → AreRowsSame p q r next before after
rows_same_more p q r y next before now after front known row all counted one = record {
  same = λ x j hx hj. elim (cases_lt j y) [
    | inl less ↦ known.same x j hx less
    | inr last ↦ let e : y ≡ j = omega arith in ap (λ (k : ℕ). same_at p q (r.x + x) (r.y + k)) (sym e) ∙ row.same x (omega arith)
  ];
  ticks = let t : now ≡ before + y * r.w = known.ticks in rw one (omega arith);
}

-- where a row differs, the block does, and all positions up to that one were counted
pub counted_to_first : (p q : Picture) (r : Rect) (y before now after front : ℕ) → AreRowsSame p q r y before now → IsRowCompared p q r y front → front < r.w → y < r.h
    → after ≡ now + (front + 1) → after ≡ before + compared (same_places p q r)
counted_to_first p q r y before now after front known row short within counted =
    let t : now ≡ before + y * r.w = known.ticks in
    let n : compared (same_places p q r) ≡ y * r.w + front + 1 = compared_up_to p q r y front within short known.same row.same (row.differs short) in
    omega arith

pub block_differs : (p q : Picture) (r : Rect) (y front : ℕ) → IsRowCompared p q r y front → front < r.w → y < r.h → IsSameBlock p q r → ⊥
block_differs p q r y front row short within block =
    false≢true (sym (row.differs short) ∙ same_from p q (r.x + front) (r.y + y) (λ c h. block.each c front y h short within))

-- where no row differs, the block doesn't, and all its positions were counted
pub counted_to_end : (p q : Picture) (r : Rect) (y before now : ℕ) → AreRowsSame p q r y before now → y ≡ r.h → now ≡ before + compared (same_places p q r)
counted_to_end p q r y before now known all =
    let t : now ≡ before + y * r.w = known.ticks in
    let n : compared (same_places p q r) ≡ r.h * r.w = compared_to_end p q r (λ x j hx hj. known.same x j hx (omega arith)) in
    let e : y * r.w ≡ r.h * r.w = ap (λ (k : ℕ). k * r.w) all in
    omega arith

pub block_same : (p q : Picture) (r : Rect) (y before now : ℕ) → AreRowsSame p q r y before now → y ≡ r.h → IsSameBlock p q r
block_same p q r y before now known all = record {
  each = λ c x j h hx hj. from_same p q (r.x + x) (r.y + j) (known.same x j hx (omega arith)) c h;
}
