-- Parts of pictures, put together.
use Rattle.std.proofs.Common.{◌≡◌, sym, ◌∙◌, ap, subst, ℕ, zero, suc, ◌+◌, ◌*◌, ◌-◌, ◌<◌, ◌≤◌, List, length, get_or, map, take, drop, arith, rules}
use Rattle.std.proofs.Math.Logic.{⊎_elim}
use Rattle.std.proofs.lemmas.Bool.{cases_lt}
use Rattle.std.proofs.lemmas.Nat.{mul-le}
use Rattle.std.proofs.lemmas.List.{places, get_or-take, get_or-drop}
use Rattle.std.proofs.lemmas.List.FromFn.{get_or-map-range_with_len}
use Rattle.h265_model.specs.Plain.{Size, below}
use Rattle.h265_model.specs.declared.rect.Rect.{Rect}
use Rattle.px_plane.specs.Planes.{Planes, picture_of}
use Rattle.frame_paints.specs.Parts.{SameBetween, SameIn, SameBeside, IsPiece}

pub rows_none : (p q : Planes) (left right top bottom : ℕ) → bottom ≤ top → SameBetween p q left right top bottom
rows_none p q left right top bottom none = record { each = λ c x y hc hl hr ht hb. absurd (omega arith) }

pub columns_none : (p q : Planes) (left right top bottom : ℕ) → right ≤ left → SameBetween p q left right top bottom
columns_none p q left right top bottom none = record { each = λ c x y hc hl hr ht hb. absurd (omega arith) }

pub rows_join : (p q : Planes) (left right top middle bottom : ℕ) → SameBetween p q left right top middle → SameBetween p q left right middle bottom → SameBetween p q left right top bottom
rows_join p q left right top middle bottom a b = record {
  each = λ c x y hc hl hr ht hb. ⊎_elim (λ (k : y < middle). a.each c x y hc hl hr ht k) (λ (k : middle ≤ y). b.each c x y hc hl hr k hb) (cases_lt y middle);
}

pub columns_join : (p q : Planes) (left middle right top bottom : ℕ) → SameBetween p q left middle top bottom → SameBetween p q middle right top bottom → SameBetween p q left right top bottom
columns_join p q left middle right top bottom a b = record {
  each = λ c x y hc hl hr ht hb. ⊎_elim (λ (k : x < middle). a.each c x y hc hl k ht hb) (λ (k : middle ≤ x). b.each c x y hc k hr ht hb) (cases_lt x middle);
}

pub narrower : (p q : Planes) (left right top bottom left' right' top' bottom' : ℕ) → left ≤ left' → right' ≤ right → top ≤ top' → bottom' ≤ bottom
    → SameBetween p q left right top bottom → SameBetween p q left' right' top' bottom'
narrower p q left right top bottom left' right' top' bottom' a b c d same = record {
  each = λ n x y hc hl hr ht hb. same.each n x y hc (omega arith) (omega arith) (omega arith) (omega arith);
}

-- ---- rows

-- a list of samples of a row is the same as another one there
pub samples_same : (p q : Planes) (c left y n low high : ℕ) (a b : List ℕ)
    → a ≡ map (λ i. picture_of p c (left + i) y) (below n) → b ≡ map (λ i. picture_of q c (left + i) y) (below n) → high ≤ n
    → ((i : ℕ) → low ≤ i → i < high → get_or a i 0 ≡ get_or b i 0)
    → (x : ℕ) → left + low ≤ x → x < left + high → picture_of p c x y ≡ picture_of q c x y
samples_same p q c left y n low high a b of_p of_q inside same x hl hr =
    let i : ℕ = x - left in
    let at : left + i ≡ x = omega arith in
    let lt : i < n = omega arith in
    let first : get_or a i 0 ≡ picture_of p c (left + i) y = ap (λ (l : List ℕ). get_or l i 0) of_p ∙ get_or-map-range_with_len (λ i. picture_of p c (left + i) y) 0 n i i 0 lt (omega arith) in
    let second : get_or b i 0 ≡ picture_of q c (left + i) y = ap (λ (l : List ℕ). get_or l i 0) of_q ∙ get_or-map-range_with_len (λ i. picture_of q c (left + i) y) 0 n i i 0 lt (omega arith) in
    subst (λ (k : ℕ). picture_of p c k y ≡ picture_of q c k y) at (sym first ∙ (same i (omega arith) (omega arith) ∙ second))

pub row_between : (p q : Planes) (left right y : ℕ)
    → ((x : ℕ) → left ≤ x → x < right → picture_of p 0 x y ≡ picture_of q 0 x y)
    → ((x : ℕ) → left ≤ x → x < right → picture_of p 1 x y ≡ picture_of q 1 x y)
    → ((x : ℕ) → left ≤ x → x < right → picture_of p 2 x y ≡ picture_of q 2 x y) → SameBetween p q left right y (y + 1)
row_between p q left right y g b r = record { each = λ c x y' hc hl hr ht hb. let e : y ≡ y' = omega arith in subst (λ (k : ℕ). picture_of p c x k ≡ picture_of q c x k) e (go c x hc hl hr) }
  where
    go : (c x : ℕ) → c < 3 → left ≤ x → x < right → picture_of p c x y ≡ picture_of q c x y
    go zero x hc hl hr = g x hl hr
    go (suc zero) x hc hl hr = b x hl hr
    go (suc (suc zero)) x hc hl hr = r x hl hr
    go (suc (suc (suc c))) x hc hl hr = absurd (omega arith)

-- ---- rectangles

-- what lies in a rectangle, but not between the sides of a part
pub beside : (p q : Planes) (r : Rect) (left right top bottom : ℕ) → left ≤ right → top ≤ bottom
    → SameBetween p q r.x (r.x + r.w) r.y top → SameBetween p q r.x (r.x + r.w) bottom (r.y + r.h)
    → SameBetween p q r.x left top bottom → SameBetween p q right (r.x + r.w) top bottom
    → SameBeside p q r (record { x = left; y = top; w = right - left; h = bottom - top })
beside p q r left right top bottom across down above below before behind = record {
  each = λ c x y hc hl hr ht hb out.
      ⊎_elim (λ (k : y < top). above.each c x y hc hl hr ht k)
      (λ (k : top ≤ y).
      ⊎_elim (λ (m : y < bottom).
      ⊎_elim (λ (i : x < left). before.each c x y hc hl i k m)
      (λ (i : left ≤ x). ⊎_elim (λ (j : x < right). absurd (out i (omega arith) k (omega arith))) (λ (j : right ≤ x). behind.each c x y hc j hr k m) (cases_lt x right)) (cases_lt x left))
      (λ (m : bottom ≤ y). below.each c x y hc hl hr m hb) (cases_lt y bottom))
      (cases_lt y top);
}

pub all_rows : (p q : Planes) (r : Rect) (top bottom : ℕ) → bottom ≤ top
    → SameBetween p q r.x (r.x + r.w) r.y top → SameBetween p q r.x (r.x + r.w) bottom (r.y + r.h) → SameIn p q r
all_rows p q r top bottom none above below =
    rows_join p q r.x (r.x + r.w) r.y top (r.y + r.h) above (narrower p q r.x (r.x + r.w) bottom (r.y + r.h) r.x (r.x + r.w) top (r.y + r.h) (omega arith) (omega arith) none (omega arith) below)

pub all_columns : (p q : Planes) (r : Rect) (left right top bottom : ℕ) → right ≤ left
    → SameBetween p q r.x (r.x + r.w) r.y top → SameBetween p q r.x (r.x + r.w) bottom (r.y + r.h)
    → SameBetween p q r.x left top bottom → SameBetween p q right (r.x + r.w) top bottom → SameIn p q r
all_columns p q r left right top bottom none above below before behind =
    let middle : SameBetween p q r.x (r.x + r.w) top bottom =
    columns_join p q r.x left (r.x + r.w) top bottom before (narrower p q right (r.x + r.w) top bottom left (r.x + r.w) top bottom none (omega arith) (omega arith) (omega arith) behind) in
    rows_join p q r.x (r.x + r.w) r.y bottom (r.y + r.h) (rows_join p q r.x (r.x + r.w) r.y top bottom above middle) below

pub part_piece : (size : Size) (r : Rect) (left right top bottom : ℕ) → IsPiece size r → r.x ≤ left → right ≤ r.x + r.w → r.y ≤ top → bottom ≤ r.y + r.h → left < right → top < bottom
    → IsPiece size (record { x = left; y = top; w = right - left; h = bottom - top })
part_piece size r left right top bottom is hl hr ht hb wide high =
    let across : r.x + r.w ≤ size.w = is.across in
    let down : r.y + r.h ≤ size.h = is.down in
    let few : r.w * r.h ≤ 4096 = is.few in
    let less : (right - left) * (bottom - top) ≤ r.w * r.h = mul-le (right - left) (bottom - top) r.w r.h (omega arith) (omega arith) in
    record { wide = omega arith; high = omega arith; across = omega arith; down = omega arith; few = omega arith }

-- the same, of all samples of a row
pub row_equal : (p q : Planes) (c left y n : ℕ) (a b : List ℕ)
    → a ≡ map (λ i. picture_of p c (left + i) y) (below n) → b ≡ map (λ i. picture_of q c (left + i) y) (below n) → length a ≡ n
    → ((i : ℕ) → i < length a → get_or a i 0 ≡ get_or b i 0)
    → (x : ℕ) → left ≤ x → x < left + n → picture_of p c x y ≡ picture_of q c x y
row_equal p q c left y n a b of_p of_q long same x hl hr =
    samples_same p q c left y n 0 n a b of_p of_q (omega arith) (λ i low high. same i (omega arith)) x (omega arith) hr

-- all samples of a row are one
pub row_has : (p : Planes) (c left y n sample : ℕ) (a : List ℕ) → a ≡ map (λ i. picture_of p c (left + i) y) (below n) → length a ≡ n
    → ((i : ℕ) → i < length a → get_or a i 0 ≡ sample) → (x : ℕ) → left ≤ x → x < left + n → picture_of p c x y ≡ sample
row_has p c left y n sample a of_p long same x hl hr =
    let i : ℕ = x - left in
    let at : left + i ≡ x = omega arith in
    let lt : i < n = omega arith in
    let first : get_or a i 0 ≡ picture_of p c (left + i) y = ap (λ (l : List ℕ). get_or l i 0) of_p ∙ get_or-map-range_with_len (λ i. picture_of p c (left + i) y) 0 n i i 0 lt (omega arith) in
    subst (λ (k : ℕ). picture_of p c k y ≡ sample) at (sym first ∙ same i (omega arith))

-- ---- parts of lists

-- what two lists have in common between two places
pub chunk_same : (a b : List ℕ) (at n : ℕ) → at + n ≤ length a
    → ((i : ℕ) → i < length (take n (drop at a)) → get_or (take n (drop at a)) i 0 ≡ get_or (take n (drop at b)) i 0)
    → (k : ℕ) → at ≤ k → k < at + n → get_or a k 0 ≡ get_or b k 0
chunk_same a b at n inside same k low high =
    let i : ℕ = k - at in
    let lt : i < n = omega arith in
    let place : at + i ≡ k = omega arith in
    let long : length (take n (drop at a)) ≡ n = search (places, rules) in
    let read_a : get_or (take n (drop at a)) i 0 ≡ get_or a (at + i) 0 = get_or-take n (drop at a) i 0 lt ∙ get_or-drop at a i 0 in
    let read_b : get_or (take n (drop at b)) i 0 ≡ get_or b (at + i) 0 = get_or-take n (drop at b) i 0 lt ∙ get_or-drop at b i 0 in
    subst (λ (m : ℕ). get_or a m 0 ≡ get_or b m 0) place (sym read_a ∙ (same i (omega arith) ∙ read_b))
