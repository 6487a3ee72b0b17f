-- Rows and squares made of a function of the place.
use Rattle.std.proofs.Common.{◌≡◌, ℕ, zero, suc, ◌+◌, ◌*◌, ◌-◌, ◌<◌, ◌≤◌, List, [], ◌∷◌, ◌++◌, length, get_or, map, take, refl, sym, ap, ◌∙◌, arith, add-one, add-zero}
use Rattle.std.specs.List.{range_with_len}
use Rattle.std.proofs.lemmas.List.{append-nil, take_all}
use Rattle.std.proofs.lemmas.List.Concat.{flat_map-append}
use Rattle.std.proofs.lemmas.List.FromFn.{fill_by_all}
use Rattle.std.proofs.lemmas.Slice.{take-put_mid}
use borrow.Rule.Slice.PartMut.{put_mid}
use Rattle.h265_model.specs.Plain.{below, place_values}
use Rattle.h265_model.specs.Predict.{square}

range_next : (n a k : ℕ) → a + n ≡ k → range_with_len a (suc n) ≡ range_with_len a n ++ k ∷ []
range_next zero a k e = rw (← e, add-zero) refl
range_next (suc n) a k e = ap (λ (xs : List ℕ). a ∷ xs) (range_next n (a + 1) k (omega arith))

range_more : (n a k : ℕ) → a + n ≡ k → range_with_len a (n + 1) ≡ range_with_len a n ++ k ∷ []
range_more n a k e = rw add-one (range_next n a k e)

-- a row that has been filled
pub row_is : (row : List ℕ) (f : ℕ → ℕ) (n m : ℕ) → m ≡ n → length row ≡ n → ((k : ℕ) → k < m → get_or row k 0 ≡ f k) → row ≡ map f (below n)
row_is row f n m same long each = fill_by_all f row n 0 long (λ k h. each k (omega arith))

-- the first rows of a square
abbrev pub first_rows : ℕ → (ℕ → ℕ → ℕ) → ℕ → List ℕ
first_rows n f j = place_values n j f

-- one more row is written
pub rows_more : (out row : List ℕ) (f : ℕ → ℕ → ℕ) (n j at k : ℕ) → at ≡ j * n → k ≡ (j + 1) * n → (j + 1) * n ≤ length out → length row ≡ n
    → take (j * n) out ≡ first_rows n f j → row ≡ map (λ x. f x j) (below n)
    → take k (put_mid at (at + n - at) out row) ≡ first_rows n f (j + 1)
rows_more out row f n j at k place next long width before here =
    let more : first_rows n f (j + 1) ≡ first_rows n f j ++ map (λ x. f x j) (below n) =
    rw (range_more j 0 j (omega arith), flat_map-append, append-nil) refl in
    take-put_mid at (at + n - at) out row k (omega arith) (omega arith) ∙ rw (place, before, here, more) refl

pub square_is : (out : List ℕ) (f : ℕ → ℕ → ℕ) (n j : ℕ) → j ≡ n → length out ≡ n * n → take (j * n) out ≡ first_rows n f j → out ≡ square n f
square_is out f n j same long known = sym (take_all (n * n) out (omega arith)) ∙ rw same at known
