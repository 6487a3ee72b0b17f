-- A list in which each of some numbers stands once, and no other, is a permutation of these.
use Rattle.std.proofs.lemmas.Bool.Decides.{nat_tests}
use Rattle.std.proofs.lemmas.List.Sorted.{IsPermutation-refl, IsPermutation-middle, IsPermutation-cons, IsPermutation-trans}
use Rattle.std.proofs.Common.{◌≡◌, ℕ, zero, suc, ◌+◌, ◌<◌, ◌==◌, eq-eqb, ne_eqb, nat_lt, if◌then◌else◌, List, [], ◌∷◌, ◌++◌, false, refl, sym, ap, ◌∙◌, arith}
use Rattle.std.specs.Prelude.{IsPermutation}
use Rattle.std.specs.List.{range_with_len}
use mathlib.Core.Logic.{dite}
use native.Mathlib.Decide.{ℕ_discrete}

abbrev pub occurs : ℕ → List ℕ → ℕ
occurs a [] = 0
occurs a (x ∷ xs) = (if a == x then 1 else 0) + occurs a xs

pub occurs-append : (a : ℕ) (xs ys : List ℕ) → occurs a (xs ++ ys) ≡ occurs a xs + occurs a ys
occurs-append a [] ys = omega arith
occurs-append a (x ∷ xs) ys = omega (arith, occurs-append a xs ys)

parted : (a : ℕ) (xs : List ℕ) → 0 < occurs a xs → (ys : List ℕ) × (zs : List ℕ) × (xs ≡ ys ++ a ∷ zs)
parted a [] some = absurd (omega arith)
parted a (x ∷ xs) some = dite (ℕ_discrete a x)
    (λ is. ([], xs, ap (λ (y : ℕ). y ∷ xs) (sym is)))
    (λ apart. let r = parted a xs (let e = ne_eqb a x apart in later a x (occurs a xs) e some) in (x ∷ r.0, r.1, ap (λ (l : List ℕ). x ∷ l) r.2))
  where
    later : (a x n : ℕ) → (a == x) ≡ false → 0 < (if a == x then 1 else 0) + n → 0 < n
    later a x n e some = grind (arith, e, some)

-- the numbers from s up to s + n, each once
abbrev pub IsEachOnce : ℕ → ℕ → List ℕ → Type 0
IsEachOnce s n xs = (a : ℕ) → occurs a xs ≡ (if nat_lt a (s + n) then (if nat_lt a s then 0 else 1) else 0)

none_left : (s : ℕ) (xs : List ℕ) → IsEachOnce s 0 xs → xs ≡ []
none_left s [] each = refl
none_left s (x ∷ xs) each = let e = each x in absurd (here x (occurs x xs) e)
  where
    here : (a n : ℕ) → (if a == a then 1 else 0) + n ≡ (if nat_lt a (s + 0) then (if nat_lt a s then 0 else 1) else 0) → ⊥
    here a n is = grind (arith, nat_tests, eq-eqb a a refl, is)

pub permuted : (n s : ℕ) (xs : List ℕ) → IsEachOnce s n xs → IsPermutation xs (range_with_len s n)
permuted zero s xs each = rw (none_left s xs each) (IsPermutation-refl [])
permuted (suc n) s xs each =
    let p = parted s xs (first (each s)) in
    let ys : List ℕ = p.0 in
    let zs : List ℕ = p.1 in
    let rest : IsEachOnce (s + 1) n (ys ++ zs) = λ a. without a (occurs a ys) (occurs a zs) (each a) (ap (occurs a) p.2 ∙ occurs-append a ys (s ∷ zs)) (occurs-append a ys zs) in
    rw p.2 (IsPermutation-trans _ _ _ (IsPermutation-middle ys s zs) (IsPermutation-cons s _ _ (permuted n (s + 1) (ys ++ zs) rest)))
  where
    first : occurs s xs ≡ (if nat_lt s (s + suc n) then (if nat_lt s s then 0 else 1) else 0) → 0 < occurs s xs
    first is = grind (arith, nat_tests, is)

    without : (a b c : ℕ) → occurs a xs ≡ (if nat_lt a (s + suc n) then (if nat_lt a s then 0 else 1) else 0) → occurs a xs ≡ b + ((if a == s then 1 else 0) + c)
        → {d : ℕ} → d ≡ b + c → d ≡ (if nat_lt a (s + 1 + n) then (if nat_lt a (s + 1) then 0 else 1) else 0)
    without a b c whole parts {d} is = dite (ℕ_discrete a s)
        (λ same. let e = eq-eqb a s same in grind (arith, nat_tests, e, same, whole, parts, is))
        (λ apart. let e = ne_eqb a s apart in grind (arith, nat_tests, e, apart, whole, parts, is))
