-- Digits as bypass bins.
use Rattle.std.proofs.Common.{◌≡◌, refl, sym, ◌∙◌, ap, ℕ, zero, suc, ◌+◌, ◌-◌, ◌*◌, ◌/◌, ◌%◌, ◌^◌, ◌<◌, ◌≤◌, Bool, true, false, List, [], ◌∷◌, ◌++◌, length, append_assoc, pow-suc, nat_eq, bit_and, inl, inr, arith}
use Rattle.std.proofs.lemmas.Nat.{and_mask, pow_pos, pow-add}
use Rattle.std.proofs.lemmas.List.{map-append}
use Rattle.std.proofs.Math.Nat.{div-eq_of_lt, eq-or-lt_of_le}
use Rattle.h265_model.specs.Plain.{bypass_bin}
use Rattle.bin_items.specs.Growth.{Meaning, TookFront}
use Rattle.bin_items.proofs.Growing.{front_as, front_first}
use Rattle.std.specs.Prelude.{◌==◌, nat_le}
use Rattle.std.proofs.lemmas.Bool.Decides.{nat_tests}
use Rattle.h265_model.proofs.ByteLaws.{u-value}
use Rattle.h265_model.specs.Bits.{u, value_after}
use Rattle.h265_model.specs.Binarise.{tr, fl, eg_within, bypass_bins}

-- the first of some digits, and the others
pub first_digit : (left v : ℕ) → 0 < left → fl left v ≡ (v / 2 ^ (left - 1) % 2 == 1) ∷ fl (left - 1) v
unfolding u
first_digit zero v h = absurd (omega arith)
first_digit (suc n) v h = let e : suc n - 1 ≡ n = omega arith in rw e refl

-- the same as items, with the digit as code takes it
pub first_bin : (left v : ℕ) → 0 < left →
    bypass_bins (fl left v) ≡ bypass_bin (nat_eq (bit_and (v / 2 ^ (left - 1)) 1) 1) ∷ bypass_bins (fl (left - 1) v)
first_bin left v h =
    let low : bit_and (v / 2 ^ (left - 1)) 1 ≡ v / 2 ^ (left - 1) % 2 = and_mask (v / 2 ^ (left - 1)) 1 in
    rw low (ap bypass_bins (first_digit left v h))

-- ---- ones

length-ones : (n : ℕ) → length (tr n n) ≡ n
length-ones zero = refl
length-ones (suc n) = ap suc (length-ones n)

double : (a p : ℕ) → (2 * a + 1 + 1) * p ≡ (a + 1) * (p * 2)
double a p = omega arith

value-ones : (a n : ℕ) → value_after a (tr n n) + 1 ≡ (a + 1) * 2 ^ n
unfolding value_after
value-ones a zero = omega arith
value-ones a (suc n) = let e = value-ones (2 * a + 1) n in let p : 2 ^ suc n ≡ 2 ^ n * 2 = pow-suc 2 n in rw p (e ∙ double a (2 ^ n))

pub ones : (n : ℕ) → fl n (2 ^ n - 1) ≡ tr n n
ones n =
    let v : value_after 0 (tr n n) ≡ 2 ^ n - 1 = let e = value-ones 0 n in omega arith in
    ap (λ m. u m (2 ^ n - 1)) (sym (length-ones n)) ∙ ap (u (length (tr n n))) (sym v) ∙ u-value 0 (tr n n)

tr-append : (a b : ℕ) → tr (a + b) (a + b) ≡ tr a a ++ tr b b
tr-append zero b = let e : 0 + b ≡ b = omega arith in rw e refl
tr-append (suc a) b = let e : suc a + b ≡ suc (a + b) = omega arith in rw e (ap (λ l. true ∷ l) (tr-append a b))

pub ones_first : (some left v : ℕ) → some ≤ left → v ≡ 2 ^ some - 1 →
    bypass_bins (tr left left) ≡ bypass_bins (fl some v) ++ bypass_bins (tr (left - some) (left - some))
ones_first some left v h e =
    let s : left ≡ some + (left - some) = omega arith in
    let t : tr left left ≡ tr some some ++ tr (left - some) (left - some) = ap (λ n. tr n n) s ∙ tr-append some (left - some) in
    rw e (ap bypass_bins (t ∙ ap (λ l. l ++ tr (left - some) (left - some)) (sym (ones some))) ∙ map-append bypass_bin (fl some (2 ^ some - 1)) (tr (left - some) (left - some)))

pub tr_within : (limit value : ℕ) → value < limit → bypass_bins (tr limit value) ≡ bypass_bins (tr value value) ++ bypass_bins (fl 1 0)
unfolding u
tr_within zero value h = absurd (omega arith)
tr_within (suc limit) zero h = refl
tr_within (suc limit) (suc value) h = ap (λ l. bypass_bin true ∷ l) (tr_within limit value (omega arith))

-- a front of the ones is a front of all
pub tr_front : (limit value : ℕ) (before after : Meaning) → value ≤ limit → TookFront (bypass_bins (tr value value)) before after → TookFront (bypass_bins (tr limit value)) before after
tr_front limit value before after h f = elim (eq-or-lt_of_le h) [
  | inl same ↦ front_as _ _ _ _ (ap (λ n. bypass_bins (tr n value)) same) f
  | inr less ↦ front_as _ _ _ _ (sym (tr_within limit value less)) (front_first _ _ _ _ f)
]

-- ---- Exp-Golomb codes

pub eg_more : (n k v : ℕ) → 2 ^ k ≤ v → eg_within (suc n) k v ≡ true ∷ eg_within n (suc k) (v - 2 ^ k)
eg_more n k v h = let e : nat_le (2 ^ k) v ≡ true = grind (arith, nat_tests) in rw e refl

no_more : (n k v : ℕ) → v < 2 ^ k → eg_within n k v ≡ false ∷ fl k v
no_more zero k v h = refl
no_more (suc n) k v h = let t : nat_le (2 ^ k) v ≡ false = grind (arith, nat_tests) in rw t refl

pub eg_last : (n k v : ℕ) → v < 2 ^ k → eg_within n k v ≡ fl (k + 1) v
unfolding u
eg_last n k v h =
    let none : v / 2 ^ k ≡ 0 = div-eq_of_lt h in
    let e : k + 1 ≡ suc k = omega arith in
    let d : fl (suc k) v ≡ false ∷ fl k v = rw none refl in
    rw e (no_more n k v h ∙ sym d)

pub eg_done : (n k v : ℕ) (front : List Bool) → v < 2 ^ k → bypass_bins (front ++ eg_within n k v) ≡ bypass_bins front ++ bypass_bins (fl (k + 1) v)
eg_done n k v front h = rw (eg_last n k v h) (map-append bypass_bin front (fl (k + 1) v))

-- one more one
pub eg_next : (n many k v : ℕ) (code : List Bool) → 0 < n → 2 ^ k ≤ v → code ≡ tr many many ++ eg_within n k v →
    code ≡ tr (many + 1) (many + 1) ++ eg_within (n - 1) (k + 1) (v - 2 ^ k)
eg_next zero many k v code h p e = absurd (omega arith)
eg_next (suc n) many k v code h p e =
    let m : suc n - 1 ≡ n = omega arith in
    let j : k + 1 ≡ suc k = omega arith in
    rw (m, j, tr-append many 1) (e ∙ ap (λ l. tr many many ++ l) (eg_more n k v p) ∙ sym (append_assoc (tr many many) (true ∷ []) (eg_within n (suc k) (v - 2 ^ k))))

not_at : (a b : ℕ) → a ≤ b → (a ≡ b → ⊥) → a < b
not_at a b h k = omega arith

pub eg_room : (many k v rest : ℕ) → many ≤ 15 → v < 65535 → rest + 2 ^ (k + many) ≡ v + 2 ^ k → 2 ^ (k + many) ≤ rest → many < 15
eg_room many k v rest few below less more =
    let p : 0 < 2 ^ k = pow_pos k in
    let e : 2 ^ (k + many) ≡ 2 ^ k * 2 ^ many = pow-add 2 k many in
    let at : many ≡ 15 → ⊥ = λ is. (let f : 2 ^ (k + many) ≡ 2 ^ k * 32768 = e ∙ ap (λ n. 2 ^ k * 2 ^ n) is in omega arith) in
    not_at many 15 few at

pub eg_less : (many k v rest p : ℕ) → p ≡ 2 ^ (k + many) → rest + 2 ^ (k + many) ≡ v + 2 ^ k → 2 ^ (k + many) ≤ rest → rest - p + 2 ^ (k + (many + 1)) ≡ v + 2 ^ k
eg_less many k v rest p is less more =
    let j : k + (many + 1) ≡ suc (k + many) = omega arith in
    let d : 2 ^ (k + (many + 1)) ≡ 2 ^ (k + many) * 2 = ap (λ m. 2 ^ m) j ∙ pow-suc 2 (k + many) in
    omega arith
