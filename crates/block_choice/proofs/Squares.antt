-- Squares of two pictures, and blocks that are made of them.
use Rattle.std.proofs.Common.{◌≡◌, refl, sym, ap, ◌∙◌, ℕ, zero, suc, ◌+◌, ◌*◌, ◌/◌, ◌%◌, ◌^◌, ◌<◌, ◌≤◌, Bool, true, false, List, [], ◌∷◌, get_or, set, length, arith, inl, inr}
use Rattle.std.specs.Prelude.{◌==◌, ◌↔◌, IsTrue, Some}
use Rattle.std.proofs.lemmas.Bool.{and_parts, and_from, eqb-true, eq-eqb, false≢true, cases_eq}
use Rattle.std.proofs.lemmas.List.{get_or-set_same, get_or-set_other}
use Rattle.h265_model.proofs.Squares.{same_places, at_places}
use Rattle.h265_model.specs.declared.leaf.Kind.TheVariants.{Skip}
use Rattle.h265_model.specs.Plain.{block_at, Size, Picture, coded, leaf_with}
use Rattle.h265_model.specs.Tree.{samples_in}
use Rattle.h265_model.specs.Choice.{same, is_copy, skips, one_leaf}
use Rattle.px_plane.specs.Blocks.{IsSameBlock}
use Rattle.block_choice.specs.Plans.{before, TellsCopies, TellsFirst, AreAllCopied, square_at}

same_refl : (xs : List ℕ) → same xs xs ≡ true
same_refl [] = refl
same_refl (x ∷ xs) = and_from (x == x) (same xs xs) (eq-eqb x x refl) (same_refl xs)

same_is : (xs ys : List ℕ) → same xs ys ≡ true → xs ≡ ys
same_is [] [] h = refl
same_is [] (y ∷ ys) h = absurd (false≢true h)
same_is (x ∷ xs) [] h = absurd (false≢true h)
same_is (x ∷ xs) (y ∷ ys) h =
    let p = and_parts (x == y) (same xs ys) h in
    let e : x ≡ y = eqb-true x y p.0 in
    rw (e, same_is xs ys p.1) refl

-- the two pictures are the same in a block
pub record IsSameIn (p q : Picture) (x y n : ℕ) : Type 0 where
  pub each : (c i j : ℕ) → c < 3 → i < n → j < n → p c (x + i) (y + j) ≡ q c (x + i) (y + j)

copy_from : (p q : Picture) (x y log2 : ℕ) → IsSameIn p q x y (2 ^ log2) → is_copy p q (leaf_with (block_at x y log2) Skip) ≡ true
unfolding is_copy
copy_from p q x y log2 is =
    and_from _ _ (at 0 (omega arith)) (and_from _ _ (at 1 (omega arith)) (and_from _ _ (at 2 (omega arith)) refl))
  where
    at : (c : ℕ) → c < 3 → same (samples_in p (leaf_with (block_at x y log2) Skip) c) (samples_in q (leaf_with (block_at x y log2) Skip) c) ≡ true
    at c h =
        ap (λ (l : List ℕ). same l (samples_in q (leaf_with (block_at x y log2) Skip) c))
        (same_places (2 ^ log2) (2 ^ log2) (λ i j. p c (x + i) (y + j)) (λ i j. q c (x + i) (y + j)) (λ i j hi hj. is.each c i j h hi hj))
        ∙ same_refl (samples_in q (leaf_with (block_at x y log2) Skip) c)

from_copy : (p q : Picture) (x y log2 : ℕ) → is_copy p q (leaf_with (block_at x y log2) Skip) ≡ true → IsSameIn p q x y (2 ^ log2)
unfolding is_copy
from_copy p q x y log2 h = record { each = λ c i j hc hi hj. at c i j hc hi hj (list c hc) }
  where
    s : ℕ → Bool
    s c = same (samples_in p (leaf_with (block_at x y log2) Skip) c) (samples_in q (leaf_with (block_at x y log2) Skip) c)

    list : (c : ℕ) → c < 3 → samples_in p (leaf_with (block_at x y log2) Skip) c ≡ samples_in q (leaf_with (block_at x y log2) Skip) c
    list zero hc = same_is _ _ (and_parts _ _ h).0
    list (suc zero) hc = same_is _ _ (and_parts _ _ (and_parts _ _ h).1).0
    list (suc (suc zero)) hc = same_is _ _ (and_parts _ _ (and_parts _ _ (and_parts _ _ h).1).1).0
    list (suc (suc (suc c))) hc = absurd (omega arith)

    at : (c i j : ℕ) → c < 3 → i < 2 ^ log2 → j < 2 ^ log2 → samples_in p (leaf_with (block_at x y log2) Skip) c ≡ samples_in q (leaf_with (block_at x y log2) Skip) c → p c (x + i) (y + j) ≡ q c (x + i) (y + j)
    at c i j hc hi hj e =
        sym (at_places (2 ^ log2) (2 ^ log2) i j (λ i j. p c (x + i) (y + j)) 0 hi hj)
        ∙ (ap (λ (l : List ℕ). get_or l (j * 2 ^ log2 + i) 0) e ∙ at_places (2 ^ log2) (2 ^ log2) i j (λ i j. q c (x + i) (y + j)) 0 hi hj)

-- a block of whole squares is copied exactly where each of them is
pub squares_same : (copies : List Bool) (p q : Picture) (size : Size) (tx ty x y i j side n : ℕ) → TellsCopies copies true p q size tx ty
    → x ≡ tx + i * 8 → y ≡ ty + j * 8 → n ≡ side * 8 → i + side ≤ 4 → j + side ≤ 4 → x + n ≤ coded size.w → y + n ≤ coded size.h
    → AreAllCopied copies i j side side → IsSameIn p q x y n
squares_same copies p q size tx ty x y i j side n tells ex ey en hi hj hx hy all = record { each = at_each }
  where
    at_each : (c u v : ℕ) → c < 3 → u < n → v < n → p c (x + u) (y + v) ≡ q c (x + u) (y + v)
    at_each c u v hc hu hv =
        let copied : get_or copies (4 * (j + v / 8) + (i + u / 8)) false ≡ true = all.each (u / 8) (v / 8) (omega arith) (omega arith) in
        let t = (tells.each (i + u / 8) (j + v / 8) (omega arith) (omega arith) (omega arith) (omega arith)).0 copied in
        let column : tx + (i + u / 8) * 8 + u % 8 ≡ x + u = omega arith in
        let row : ty + (j + v / 8) * 8 + v % 8 ≡ y + v = omega arith in
        rw (← column, ← row) (t.1.each c (u % 8) (v % 8) hc (omega arith) (omega arith))

pub same_squares : (copies : List Bool) (p q : Picture) (size : Size) (tx ty x y i j side n : ℕ) → TellsCopies copies true p q size tx ty
    → x ≡ tx + i * 8 → y ≡ ty + j * 8 → n ≡ side * 8 → i + side ≤ 4 → j + side ≤ 4 → x + n ≤ coded size.w → y + n ≤ coded size.h
    → IsSameIn p q x y n → AreAllCopied copies i j side side
same_squares copies p q size tx ty x y i j side n tells ex ey en hi hj hx hy is = record { each = at_each }
  where
    at_each : (u v : ℕ) → u < side → v < side → get_or copies (4 * (j + v) + (i + u)) false ≡ true
    at_each u v hu hv =
        (tells.each (i + u) (j + v) (omega arith) (omega arith) (omega arith) (omega arith)).1 (
          refl,
          record {
            each = λ c a b hc ha hb.
                let column : x + (u * 8 + a) ≡ tx + (i + u) * 8 + a = omega arith in
                let row : y + (v * 8 + b) ≡ ty + (j + v) * 8 + b = omega arith in
                rw (← column, ← row) (is.each c (u * 8 + a) (v * 8 + b) hc (omega arith) (omega arith));
          },
        )

-- the plans that copy
pub skips_yes : (copies : List Bool) (has : Bool) (p q : Picture) (size : Size) (tx ty x y i j side log2 : ℕ) → TellsCopies copies has p q size tx ty
    → x ≡ tx + i * 8 → y ≡ ty + j * 8 → 2 ^ log2 ≡ side * 8 → 1 ≤ side → i + side ≤ 4 → j + side ≤ 4 → x + 2 ^ log2 ≤ coded size.w → y + 2 ^ log2 ≤ coded size.h
    → AreAllCopied copies i j side side → skips (before has p) q (leaf_with (block_at x y log2) Skip) ≡ one_leaf 1 (leaf_with (block_at x y log2) Skip) ∷ []
skips_yes copies true p q size tx ty x y i j side log2 tells ex ey en some hi hj hx hy all =
    rw (copy_from p q x y log2 (squares_same copies p q size tx ty x y i j side (2 ^ log2) tells ex ey en hi hj hx hy all)) refl
skips_yes copies false p q size tx ty x y i j side log2 tells ex ey en some hi hj hx hy all =
    let copied : get_or copies (4 * (j + 0) + (i + 0)) false ≡ true = all.each 0 0 (omega arith) (omega arith) in
    let t = (tells.each (i + 0) (j + 0) (omega arith) (omega arith) (omega arith) (omega arith)).0 copied in
    absurd (false≢true t.0)

pub skips_no : (copies : List Bool) (has : Bool) (p q : Picture) (size : Size) (tx ty x y i j side log2 : ℕ) → TellsCopies copies has p q size tx ty
    → x ≡ tx + i * 8 → y ≡ ty + j * 8 → 2 ^ log2 ≡ side * 8 → i + side ≤ 4 → j + side ≤ 4 → x + 2 ^ log2 ≤ coded size.w → y + 2 ^ log2 ≤ coded size.h
    → (AreAllCopied copies i j side side → ⊥) → skips (before has p) q (leaf_with (block_at x y log2) Skip) ≡ []
skips_no copies false p q size tx ty x y i j side log2 tells ex ey en hi hj hx hy none = refl
skips_no copies true p q size tx ty x y i j side log2 tells ex ey en hi hj hx hy none = go (is_copy p q (leaf_with (block_at x y log2) Skip)) refl
  where
    go : (b : Bool) → is_copy p q (leaf_with (block_at x y log2) Skip) ≡ b → skips (Some p) q (leaf_with (block_at x y log2) Skip) ≡ []
    go true e = absurd (none (same_squares copies p q size tx ty x y i j side (2 ^ log2) tells ex ey en hi hj hx hy (from_copy p q x y log2 e)))
    go false e = rw e refl

-- ---- one more square is compared

pub first_none : (copies : List Bool) (p q : Picture) (size : Size) (x y : ℕ) → TellsFirst copies p q size x y 0
first_none copies p q size x y = record { each = λ k h. absurd (omega arith) }

pub first_more : (copies : List Bool) (p q : Picture) (size : Size) (x y n : ℕ) (b : Bool) → TellsFirst copies p q size x y n → n < length copies
    → IsTrue b ↔ IsSameBlock p q (square_at (x + n % 4 * 8) (y + n / 4 * 8)) → TellsFirst (set copies n b) p q size x y (n + 1)
first_more copies p q size x y n b known within is = record { each = at_each }
  where
    at_each : (k : ℕ) → k < n + 1 → x + k % 4 * 8 < coded size.w → y + k / 4 * 8 < coded size.h
        → IsTrue (get_or (set copies n b) k false) ↔ IsSameBlock p q (square_at (x + k % 4 * 8) (y + k / 4 * 8))
    at_each k h hx hy = elim (cases_eq k n) [
      | inl same ↦ rw (same, get_or-set_same copies n b false within) is
      | inr other ↦ rw (get_or-set_other copies n k b false other) (known.each k (omega arith) hx hy)
    ]

pub first_beyond : (copies : List Bool) (p q : Picture) (size : Size) (x y n : ℕ) → TellsFirst copies p q size x y n
    → (x + n % 4 * 8 < coded size.w → y + n / 4 * 8 < coded size.h → ⊥) → TellsFirst copies p q size x y (n + 1)
first_beyond copies p q size x y n known beyond = record { each = at_each }
  where
    at_each : (k : ℕ) → k < n + 1 → x + k % 4 * 8 < coded size.w → y + k / 4 * 8 < coded size.h
        → IsTrue (get_or copies k false) ↔ IsSameBlock p q (square_at (x + k % 4 * 8) (y + k / 4 * 8))
    at_each k h hx hy = elim (cases_eq k n) [
      | inl same ↦ absurd (beyond (rw same at hx) (rw same at hy))
      | inr other ↦ known.each k (omega arith) hx hy
    ]

pub tells_from : (copies : List Bool) (p q : Picture) (size : Size) (x y : ℕ) → TellsFirst copies p q size x y 16 → TellsCopies copies true p q size x y
tells_from copies p q size x y first = record { each = at_each }
  where
    at_each : (i j : ℕ) → i < 4 → j < 4 → x + i * 8 < coded size.w → y + j * 8 < coded size.h
        → IsTrue (get_or copies (4 * j + i) false) ↔ ((true ≡ true) × IsSameBlock p q (square_at (x + i * 8) (y + j * 8)))
    at_each i j hi hj hx hy =
        let ei : (4 * j + i) % 4 ≡ i = omega arith in
        let ej : (4 * j + i) / 4 ≡ j = omega arith in
        let t = rw (ei, ej) at (first.each (4 * j + i) (omega arith) (rw ei hx) (rw ej hy)) in
        (λ h. (refl, t.0 h), λ h. t.1 h.1)
