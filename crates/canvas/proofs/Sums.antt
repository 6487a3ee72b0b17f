-- Prediction and levels, place by place.
use Rattle.std.proofs.Common.{◌≡◌, refl, sym, ◌∙◌, ap, ℕ, zero, suc, ◌*◌, ◌<◌, List, [], ◌∷◌, length, get_or, arith}
use Rattle.std.specs.Prelude.{ℤ, pos, ◌+ℤ◌}
use Rattle.std.specs.List.{AllByRecursion}
use Rattle.std.proofs.lemmas.Int.{ints}
use Rattle.h265_model.specs.Plain.{AreBytes}
use Rattle.h265_model.specs.Contexts.{clip}
use Rattle.h265_model.specs.Predict.{square}
use Rattle.h265_model.specs.Rebuild.{sums}
use Rattle.h265_model.proofs.Squares.{all_places, length_places}

-- a list that has the sum at each place is that of the sums
pub sums_all : (new samples : List ℕ) (levels : List ℤ) → length new ≡ length samples → length levels ≡ length samples
    → ((k : ℕ) → k < length samples → get_or new k 0 ≡ clip 0 255 (pos (get_or samples k 0) +ℤ get_or levels k (pos 0))) → new ≡ sums samples levels
sums_all [] [] levels a b each = refl
sums_all [] (p ∷ samples) levels a b each = absurd (omega arith)
sums_all (n ∷ new) [] levels a b each = absurd (omega arith)
sums_all (n ∷ new) (p ∷ samples) [] a b each = absurd (omega arith)
sums_all (n ∷ new) (p ∷ samples) (v ∷ levels) a b each =
    ap (λ (m : ℕ). m ∷ new) (each 0 (omega arith))
    ∙ ap (λ (l : List ℕ). clip 0 255 (pos p +ℤ v) ∷ l) (sums_all new samples levels (omega arith) (omega arith) (λ k h. each (suc k) (omega arith)))

byte_at : (list : List ℕ) (k : ℕ) → AreBytes list → get_or list k 0 < 256
byte_at [] k all = omega arith
byte_at (b ∷ list) zero all = all.0
byte_at (b ∷ list) (suc k) all = byte_at list k all.1

zero_at : (levels : List ℤ) (k : ℕ) → AllByRecursion (λ (v : ℤ). v ≡ pos 0) levels → get_or levels k (pos 0) ≡ pos 0
zero_at [] k all = refl
zero_at (v ∷ levels) zero all = all.0
zero_at (v ∷ levels) (suc k) all = zero_at levels k all.1

clipped : (p : ℕ) → p < 256 → p ≡ clip 0 255 (pos p +ℤ pos 0)
clipped p h = omega (arith, ints)

-- levels of zero change nothing
pub sums_zeros : (samples : List ℕ) (n : ℕ) → AreBytes samples → length samples ≡ n * n → samples ≡ sums samples (square n (λ x y. pos 0))
sums_zeros samples n bytes long =
    sums_all samples samples (square n (λ x y. pos 0)) refl (length_places n n (λ x y. pos 0) ∙ sym long)
    (λ k h. clipped (get_or samples k 0) (byte_at samples k bytes)
    ∙ ap (λ (v : ℤ). clip 0 255 (pos (get_or samples k 0) +ℤ v)) (sym (zero_at (square n (λ x y. pos 0)) k (all_places (λ (v : ℤ). v ≡ pos 0) n n (λ x y. pos 0) (λ x y a b. refl)))))
