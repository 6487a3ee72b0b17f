-- One row more of a rectangle's places.
use Rattle.std.proofs.Common.{◌≡◌, ℕ, zero, suc, ◌+◌, List, [], ◌∷◌, ◌++◌, ap, ◌∙◌, arith}
use Rattle.std.proofs.lemmas.List.{append-nil}
use Rattle.std.proofs.lemmas.Grind.{flat_map-append}
use Rattle.std.specs.List.{range_with_len}
use Rattle.std.specs.Prelude.{flat_map}
use Rattle.h265_model.specs.Plain.{below, row_values, place_values}

pub range-more : (a n : ℕ) → range_with_len a (suc n) ≡ range_with_len a n ++ (a + n) ∷ []
range-more a zero = ap (λ (k : ℕ). k ∷ []) (omega arith)
range-more a (suc n) = ap (λ (l : List ℕ). a ∷ l) (range-more (a + 1) n ∙ ap (λ (k : ℕ). range_with_len (a + 1) n ++ k ∷ []) (omega arith))

pub rows-more : (w n : ℕ) (f : ℕ → ℕ → ℕ) → place_values w (n + 1) f ≡ place_values w n f ++ row_values w (λ x. f x n)
rows-more w n f =
    let g : ℕ → List ℕ = λ y. row_values w (λ x. f x y) in
    let next : n + 1 ≡ suc n = omega arith in
    ap (λ (k : ℕ). place_values w k f) next
    ∙ (ap (flat_map g) (range-more 0 n)
    ∙ (flat_map-append g (below n) ((0 + n) ∷ []) ∙ ap (λ (l : List ℕ). flat_map g (below n) ++ l) (append-nil (g (0 + n)) ∙ ap g (omega arith))))
