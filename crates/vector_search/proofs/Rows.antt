-- Rows of squares of two pictures.
use Rattle.std.proofs.Common.{◌≡◌, sym, ◌∙◌, ℕ, ◌+◌, ◌<◌, List, get_or, map, arith, inl, inr}
use Rattle.std.proofs.lemmas.Bool.{cases_lt}
use Rattle.h265_model.specs.Plain.{Picture, below}
use Rattle.px_plane.proofs.Blocks.{row_reads}
use Rattle.vector_search.specs.Copies.{AreSameRows}

-- one more row is the same
pub rows_more : (p q : Picture) (c from_x from_y x y n j : ℕ) (a b : List ℕ)
    → a ≡ map (λ i. p c (from_x + i) (from_y + j)) (below n) → b ≡ map (λ i. q c (x + i) (y + j)) (below n)
    → ((i : ℕ) → i < n → get_or a i 0 ≡ get_or b i 0) → AreSameRows p q c from_x from_y x y n j → AreSameRows p q c from_x from_y x y n (j + 1)
rows_more p q c from_x from_y x y n j a b is like same known = record { each = at }
  where
    at : (i k : ℕ) → i < n → k < j + 1 → p c (from_x + i) (from_y + k) ≡ q c (x + i) (y + k)
    at i k hi hk = elim (cases_lt k j) [
      | inl less ↦ known.each i k hi less
      | inr last ↦
          let e : k ≡ j = omega arith in
          rw e (sym (row_reads a (λ i. p c (from_x + i) (from_y + j)) n is i hi) ∙ (same i hi ∙ row_reads b (λ i. q c (x + i) (y + j)) n like i hi))
    ]

-- a row of a square that is the same
pub row_of : (p q : Picture) (c from_x from_y x y n j : ℕ) (a b : List ℕ) → j < n
    → a ≡ map (λ i. p c (from_x + i) (from_y + j)) (below n) → b ≡ map (λ i. q c (x + i) (y + j)) (below n)
    → AreSameRows p q c from_x from_y x y n n → (i : ℕ) → i < n → get_or a i 0 ≡ get_or b i 0
row_of p q c from_x from_y x y n j a b hj is like same i hi =
    row_reads a (λ i. p c (from_x + i) (from_y + j)) n is i hi ∙ (same.each i j hi hj ∙ sym (row_reads b (λ i. q c (x + i) (y + j)) n like i hi))
