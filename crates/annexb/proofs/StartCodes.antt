-- Where the next start code ends.
use Rattle.std.proofs.Common.{◌≡◌, ◌≢◌, ℕ, zero, suc, ◌+◌, ◌<◌, ◌≤◌, true, false, List, [], ◌∷◌, length, drop, get_or, Option, Result, None, Some, Ok, Err, refl, sym, ◌∙◌, ap, subst, arith}
use Rattle.std.proofs.lemmas.List.{drop_all}
use Rattle.std.specs.Prelude.{◌&&◌, ◌==◌, nat_le}
use Rattle.std.proofs.lemmas.Bool.Decides.{nat_tests}
use Rattle.h265_model.specs.NalUnits.{next_start, only_zeros}
use Rattle.annexb.proofs.Payloads.{all_zeros}

-- n zeros stand at the front, and another byte after them if there is one
pub record AreFrontZeros (list : List ℕ) (n : ℕ) : Type 0 where
  pub within : n ≤ length list
  pub zeros : (k : ℕ) → k < n → get_or list k 0 ≡ 0
  pub other : n < length list → get_or list n 0 ≢ 0

later_zeros : (b : ℕ) (list : List ℕ) (n : ℕ) → AreFrontZeros (b ∷ list) (suc n) → AreFrontZeros list n
later_zeros b list n is = record {
  within = omega (arith, is.within);
  zeros = λ k h. is.zeros (suc k) (omega arith);
  other = λ h. is.other (omega arith);
}

is_zero : (b : ℕ) → b ≡ 0 → (b == 0) ≡ true
is_zero b h = grind (arith, nat_tests)

isnt_zero : (b : ℕ) → b ≢ 0 → (b == 0) ≡ false
isnt_zero b h = grind (arith, nat_tests)

is_start : (b z : ℕ) → b ≡ 1 → 2 ≤ z → (b == 1 && nat_le 2 z) ≡ true
is_start b z h k = grind (arith, nat_tests)

isnt_start : (b z : ℕ) → (b ≡ 1 → z < 2) → (b == 1 && nat_le 2 z) ≡ false
isnt_start b z h = grind (arith, nat_tests)

sum_later : (at n : ℕ) → at + 1 + n ≡ at + suc n
sum_later at n = omega arith

one_more : (at z b : ℕ) (list : List ℕ) → b ≡ 0 → next_start at z (b ∷ list) ≡ next_start (at + 1) (z + 1) list
unfolding next_start
one_more at z b list h = rw (is_zero b h) refl

pub start-none : (at z : ℕ) (list : List ℕ) (n : ℕ) → AreFrontZeros list n → n ≡ length list → next_start at z list ≡ Ok None
unfolding next_start
start-none at z [] n is h = refl
start-none at z (b ∷ list) zero is h = absurd (omega arith)
start-none at z (b ∷ list) (suc n) is h = one_more at z b list (is.zeros 0 (omega arith)) ∙ start-none (at + 1) (z + 1) list n (later_zeros b list n is) (omega arith)

found_here : (at z b : ℕ) (list : List ℕ) → b ≡ 1 → 2 ≤ z → next_start at z (b ∷ list) ≡ Ok (Some (at + 1, list))
unfolding next_start
found_here at z b list h k =
    let some : b ≢ 0 = λ e. absurd (omega arith) in
    rw (isnt_zero b some, is_start b z h k) refl

refused_here : (at z b : ℕ) (list : List ℕ) → b ≢ 0 → (b ≡ 1 → z < 2) → next_start at z (b ∷ list) ≡ Err at
unfolding next_start
refused_here at z b list h k = rw (isnt_zero b h, isnt_start b z k) refl

pub start-found : (at z : ℕ) (list : List ℕ) (n : ℕ) → AreFrontZeros list n → n < length list → get_or list n 0 ≡ 1 → 2 ≤ z + n → next_start at z list ≡ Ok (Some (at + suc n, drop (suc n) list))
start-found at z [] n is h one few = absurd (omega arith)
start-found at z (b ∷ list) zero is h one few = found_here at z b list one (omega arith)
start-found at z (b ∷ list) (suc n) is h one few =
    one_more at z b list (is.zeros 0 (omega arith))
    ∙ start-found (at + 1) (z + 1) list n (later_zeros b list n is) (omega arith) one (omega arith)
    ∙ ap (λ (k : ℕ). Ok (Some (k, drop (suc n) list))) (sum_later at (suc n))

pub start-refused : (at z : ℕ) (list : List ℕ) (n : ℕ) → AreFrontZeros list n → n < length list → (get_or list n 0 ≡ 1 → z + n < 2) → next_start at z list ≡ Err (at + n)
start-refused at z [] n is h few = absurd (omega arith)
start-refused at z (b ∷ list) zero is h few = refused_here at z b list (is.other (omega arith)) (λ e. let l = few e in omega arith) ∙ ap Err (omega arith)
start-refused at z (b ∷ list) (suc n) is h few =
    one_more at z b list (is.zeros 0 (omega arith))
    ∙ start-refused (at + 1) (z + 1) list n (later_zeros b list n is) (omega arith) (λ e. let l = few e in omega arith)
    ∙ ap Err (sum_later at n)

-- only zeros, or another byte at a place
pub zeros-all : (list : List ℕ) (n : ℕ) → AreFrontZeros list n → n ≡ length list → only_zeros list ≡ true
zeros-all list n is h = all_zeros list (λ k l. is.zeros k (omega arith))

pub zeros-not : (list : List ℕ) (n : ℕ) → AreFrontZeros list n → n < length list → only_zeros list ≡ false
zeros-not [] n is h = absurd (omega arith)
zeros-not (b ∷ list) zero is h = let some = is.other (omega arith) in grind (arith, nat_tests)
zeros-not (b ∷ list) (suc n) is h = let others = zeros-not list n (later_zeros b list n is) (omega arith) in grind (arith, nat_tests, others)

pub drop_drop : (n m : ℕ) (list : List ℕ) → drop n (drop m list) ≡ drop (m + n) list
drop_drop n zero list = let same : n ≡ 0 + n = omega arith in ap (λ i. drop i list) same
drop_drop n (suc m) [] = drop_all n [] (omega arith) ∙ sym (drop_all (suc m + n) [] (omega arith))
drop_drop n (suc m) (b ∷ list) = let same : suc (m + n) ≡ suc m + n = omega arith in drop_drop n m list ∙ ap (λ i. drop i (b ∷ list)) same

-- the place after a start code, and the bytes from it on
pub later_drop : (place n : ℕ) (list : List ℕ) (found : Result (Option (ℕ × List ℕ)) ℕ) → found ≡ Ok (Some (place + suc n, drop (suc n) (drop place list))) → found ≡ Ok (Some (place + n + 1, drop (place + n + 1) list))
later_drop place n list found is =
    let same : place + suc n ≡ place + n + 1 = omega arith in
    let P : List ℕ → Type 0 = λ l. found ≡ Ok (Some (place + suc n, l)) in
    let Q : ℕ → Type 0 = λ k. found ≡ Ok (Some (k, drop k list)) in
    subst Q same (subst P (drop_drop (suc n) place list) is)
