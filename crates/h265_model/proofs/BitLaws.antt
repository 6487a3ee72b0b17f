-- Laws of bits: a number's digits are read back.
use Rattle.std.proofs.Common.{◌≡◌, ℕ, zero, suc, ◌+◌, ◌-◌, ◌*◌, ◌/◌, ◌%◌, ◌^◌, ◌<◌, ◌≤◌, Bool, true, false, List, ◌++◌, length, refl, sym, ◌∙◌, ap, arith, pow-suc, mod-lt, mod-eq_of_lt, mul_comm, add-zero, zero-add, append_assoc, length-append, replicate}
use Rattle.std.proofs.Math.Arith.{mod-mul}
use Rattle.std.proofs.Math.Nat.{mod-one, pow-le-pow_right}
use Rattle.std.proofs.lemmas.Nat.{pow_pos}
use Rattle.std.proofs.lemmas.List.{take_at, drop_at}
use Rattle.std.specs.Prelude.{Some, ◌==◌, nat_lt, nat_le}
use Rattle.std.proofs.lemmas.Bool.Decides.{nat_tests}
use Rattle.h265_model.specs.Bits.{u, ue, digit, value_after, digits_up_to, read_u, read_ue, read_ue_after}

digit_of : (r : ℕ) → r < 2 → digit (r == 1) ≡ r
digit_of zero h = refl
digit_of (suc zero) h = refl
digit_of (suc (suc r)) h = absurd (omega arith)

two_digits : (n v : ℕ) → v % 2 ^ suc n ≡ (v / 2 ^ n % 2) * 2 ^ n + v % 2 ^ n
two_digits n v = ap (λ m. v % m) (pow-suc 2 n ∙ mul_comm (2 ^ n) 2) ∙ mod-mul v (omega arith) (pow_pos n)

-- a digit is put after a number's digits
pub shifted : (a d p r : ℕ) → (2 * a + d) * p + r ≡ a * (p * 2) + (d * p + r)
shifted a d p r = omega arith

pub value-u : (a n v : ℕ) → value_after a (u n v) ≡ a * 2 ^ n + v % 2 ^ n
unfolding value_after u
value-u a zero v = rw (mod-one v) (omega arith)
value-u a (suc n) v =
    ap (λ d. value_after (2 * a + d) (u n v)) (digit_of (v / 2 ^ n % 2) (mod-lt (v / 2 ^ n) (omega arith)))
    ∙ value-u (2 * a + v / 2 ^ n % 2) n v
    ∙ shifted a (v / 2 ^ n % 2) (2 ^ n) (v % 2 ^ n)
    ∙ ap (λ m. a * m + ((v / 2 ^ n % 2) * 2 ^ n + v % 2 ^ n)) (sym (pow-suc 2 n))
    ∙ ap (λ m. a * 2 ^ suc n + m) (sym (two_digits n v))

pub length-u : (n v : ℕ) → length (u n v) ≡ n
unfolding u
length-u zero v = refl
length-u (suc n) v = ap suc (length-u n v)

enough : (n v : ℕ) (rest : List Bool) → nat_lt (length (u n v ++ rest)) n ≡ false
enough n v rest = let e = length-append (u n v) rest in let l = length-u n v in grind (arith, nat_tests, e, l)

nothing_before : (p r : ℕ) → 0 * p + r ≡ r
nothing_before p r = omega arith

pub read_u-u : (n v : ℕ) (rest : List Bool) → read_u n (u n v ++ rest) ≡ Some (v % 2 ^ n, rest)
unfolding read_u
read_u-u n v rest =
    rw (enough n v rest, take_at (u n v) rest n (length-u n v), drop_at (u n v) rest n (length-u n v))
    (ap (λ m. Some (m, rest)) (value-u 0 n v ∙ nothing_before (2 ^ n) (v % 2 ^ n)))

-- a number's digits begin with a one
pub record Digits (n v : ℕ) : Type 0 where
  pub low : ℕ
  pub count : digits_up_to n v ≡ suc low
  pub least : 2 ^ low ≤ v
  pub below : v < 2 ^ suc low

pub digits_of : (n v : ℕ) → 0 < v → v < 2 ^ n → Digits n v
unfolding digits_up_to
digits_of zero v pos h = absurd (omega arith)
digits_of (suc n) v pos h =
    elim (nat_le (2 ^ n) v) as (λ b. nat_le (2 ^ n) v ≡ b → Digits (suc n) v) [
      | true ↦ λ is. record { low = n; count = rw is; least = grind (arith, nat_tests); below = h }
      | false ↦ λ is. let d = digits_of n v pos (grind (arith, nat_tests)) in record { low = d.low; count = rw is d.count; least = d.least; below = d.below }
    ] refl

zeros_read : (j z : ℕ) (bs : List Bool) → read_ue_after z (replicate j false ++ bs) ≡ read_ue_after (z + j) bs
unfolding read_ue_after
zeros_read zero z bs = ap (λ m. read_ue_after m bs) (sym (add-zero z))
zeros_read (suc j) z bs = zeros_read j (z + 1) bs ∙ ap (λ m. read_ue_after m bs) (omega arith)

-- the first digit of a number is a one, and the others are the number less that one
first_digit : (q p v r : ℕ) → q < 2 → p ≤ v → r < p → v ≡ q * p + r → (q ≡ 1) × (p + r ≡ v)
first_digit zero p v r h a b e = absurd (omega arith)
first_digit (suc zero) p v r h a b e = (refl, omega arith)
first_digit (suc (suc q)) p v r h a b e = absurd (omega arith)

short_code : (low k : ℕ) → 2 ^ low ≤ k + 1 → k < 2 ^ 32 - 1 → nat_lt 31 low ≡ false
short_code low k a b = elim (nat_lt 31 low) as (λ t. nat_lt 31 low ≡ t → t ≡ false) [
  | true ↦ λ is. let long : 32 ≤ low = grind (arith, nat_tests) in let p : 2 ^ 32 ≤ 2 ^ low = pow-le-pow_right (omega arith) long in absurd (omega arith)
  | false ↦ λ is. refl
] refl

pub code_of : (k low : ℕ) → digits_up_to 64 (k + 1) ≡ suc low → ue k ≡ replicate low false ++ u (suc low) (k + 1)
unfolding ue
code_of k low e = rw e (ap (λ m. replicate m false ++ u (suc low) (k + 1)) (omega arith))

without_leading_zeros : (low k : ℕ) (rest : List Bool) → 2 ^ low ≤ k + 1 → k + 1 < 2 ^ suc low → k < 2 ^ 32 - 1 → read_ue_after low (u (suc low) (k + 1) ++ rest) ≡ Some (k, rest)
unfolding u read_ue_after
without_leading_zeros low k rest least below h =
    let v = k + 1 in
    let whole : v ≡ (v / 2 ^ low % 2) * 2 ^ low + v % 2 ^ low = sym (mod-eq_of_lt below) ∙ two_digits low v in
    let first = first_digit (v / 2 ^ low % 2) (2 ^ low) v (v % 2 ^ low) (mod-lt (v / 2 ^ low) (omega arith)) least (mod-lt v (pow_pos low)) whole in
    rw (first.0, short_code low k least h, read_u-u low v rest)
    (let same : 2 ^ low - 1 + v % 2 ^ low ≡ k = omega (arith, first.1, pow_pos low) in ap (λ m. Some (m, rest)) same)

pub read-ue : (k : ℕ) (rest : List Bool) → k < 2 ^ 32 - 1 → read_ue (ue k ++ rest) ≡ Some (k, rest)
read-ue k rest h =
    let d = digits_of 64 (k + 1) (omega arith) (omega arith) in
    ap (λ bits. read_ue_after 0 (bits ++ rest)) (code_of k d.low d.count)
    ∙ ap (read_ue_after 0) (append_assoc (replicate d.low false) (u (suc d.low) (k + 1)) rest)
    ∙ zeros_read d.low 0 (u (suc d.low) (k + 1) ++ rest)
    ∙ ap (λ z. read_ue_after z (u (suc d.low) (k + 1) ++ rest)) (zero-add d.low)
    ∙ without_leading_zeros d.low k rest d.least d.below h
