-- The entry points of a slice header, from the lengths of all substreams.
use Rattle.std.proofs.Common.{◌≡◌, refl, sym, ◌∙◌, ap, ℕ, zero, suc, ◌-◌, ◌<◌, List, [], ◌∷◌, length, take, map, get_or, arith}
use Rattle.std.specs.List.{All}
use Rattle.std.proofs.lemmas.List.{length-map}
use Rattle.h265_model.specs.NalUnits.{escape}
use Rattle.h265_model.specs.Stream.{but_last}
use Rattle.slice_assembly.specs.Substreams.{IsSubstream}
use Rattle.slice_assembly.proofs.EscapeLengths.{some_escaped}

first_lengths : {R : Type 0} (f : R → List ℕ) (rows : List R) (n : ℕ) → take n (map (λ r. length (f r)) rows) ≡ map length (take n (map f rows))
first_lengths f [] zero = refl
first_lengths f [] (suc n) = refl
first_lengths f (r ∷ rows) zero = refl
first_lengths f (r ∷ rows) (suc n) = ap (λ l. length (f r) ∷ l) (first_lengths f rows n)

pub offsets_are : {R : Type 0} (f : R → List ℕ) (rows : List R) (n : ℕ) → n ≡ length rows → take (n - 1) (map (λ r. length (f r)) rows) ≡ map length (but_last (map f rows))
offsets_are f rows n is = first_lengths f rows (n - 1) ∙ ap (λ m. map length (take (m - 1) (map f rows))) (is ∙ sym (length-map rows f))

-- each is of some bytes
pub offsets_some : {R : Type 0} (f : R → List ℕ) (rows : List R) (n : ℕ) → All (λ r. IsSubstream (f r)) rows → All (λ o. 0 < o) (take n (map (λ r. length (escape (f r))) rows))
offsets_some f rows zero all = λ k d less. absurd (omega arith)
offsets_some f [] (suc n) all = λ k d less. absurd (omega arith)
offsets_some f (r ∷ rows) (suc n) all =
    let others = offsets_some f rows n (λ j e l. all (suc j) e (omega arith)) in
    let lengths : List ℕ = take (suc n) (map (λ r. length (escape (f r))) (r ∷ rows)) in
    λ k d. elim k as (λ k. k < length lengths → 0 < get_or lengths k d) [
      | zero ↦ λ less. some_escaped (f r) (all 0 r (omega arith))
      | suc k ↦ λ less. others k d (omega arith)
    ]
