-- Laws of a number's digits in parts.
use Rattle.std.proofs.Common.{◌≡◌, refl, sym, ◌∙◌, ap, ℕ, zero, suc, ◌+◌, ◌*◌, ◌/◌, ◌%◌, ◌^◌, ◌<◌, Bool, List, [], ◌∷◌, ◌++◌, length, length-append, mod-eq_of_lt, mod-lt, mul_comm, pow-suc, get_or, arith}
use Rattle.std.proofs.lemmas.Nat.{pow_pos, pow-add}
use Rattle.std.proofs.Math.Nat.{div-eq_of_lt, mul-add-div_right, mul-add-mod_self_right}
use Rattle.std.specs.Prelude.{set}
use Rattle.h265_model.specs.Plain.{AreBytes}
use Rattle.h265_model.specs.Bits.{u, digit, value_after, value, bits}
use Rattle.h265_model.specs.Code.{bytes_of}
use Rattle.h265_model.proofs.Digits.{u-mod, u-split}
use Rattle.h265_model.proofs.BitLaws.{value-u, length-u}
use Rattle.h265_model.proofs.ByteLaws.{u-value, value_below}

-- a number after another's digits, with a carry
pub u-join : (m n a b : ℕ) → u (m + n) (a * 2 ^ n + b) ≡ u m (a + b / 2 ^ n) ++ u n b
u-join m n a b =
    u-split m n (a * 2 ^ n + b)
    ∙ ap (λ x. u m x ++ u n (a * 2 ^ n + b)) (mul-add-div_right (pow_pos n) a b)
    ∙ ap (λ l. u m (a + b / 2 ^ n) ++ l) (sym (u-mod n (a * 2 ^ n + b)) ∙ ap (u n) (mul-add-mod_self_right a (2 ^ n) b) ∙ u-mod n b)

value_after-append : (a : ℕ) (xs ys : List Bool) → value_after a (xs ++ ys) ≡ value_after (value_after a xs) ys
unfolding value_after
value_after-append a [] ys = refl
value_after-append a (x ∷ xs) ys = value_after-append (2 * a + digit x) xs ys

-- more digits behind some
pub value-behind : (list : List Bool) (n v : ℕ) → v < 2 ^ n → value (list ++ u n v) ≡ value list * 2 ^ n + v
value-behind list n v h = value_after-append 0 list (u n v) ∙ value-u (value list) n v ∙ ap (λ m. value list * 2 ^ n + m) (mod-eq_of_lt h)

regroup : (d p q h t : ℕ) → (d * p + h) * q + t ≡ d * (p * q) + (h * q + t)
regroup d p q h t = omega arith

-- digits behind a list, as a number without a carry out of the digits
pub grown : (list : List Bool) (high k n t : ℕ) → high < 2 ^ k → high * 2 ^ n + t < 2 ^ (k + n) →
    u (length (list ++ u k high) + n) (value (list ++ u k high) * 2 ^ n + t) ≡ list ++ u (k + n) (high * 2 ^ n + t)
grown list high k n t below fits =
    let long : length (list ++ u k high) + n ≡ length list + (k + n) = omega (arith, length-append list (u k high), length-u k high) in
    let power : 2 ^ (k + n) ≡ 2 ^ k * 2 ^ n = pow-add 2 k n in
    let same : value (list ++ u k high) * 2 ^ n + t ≡ value list * 2 ^ (k + n) + (high * 2 ^ n + t) =
    ap (λ v. v * 2 ^ n + t) (value-behind list k high below) ∙ regroup (value list) (2 ^ k) (2 ^ n) high t ∙ ap (λ p. value list * p + (high * 2 ^ n + t)) (sym power) in
    let none : (high * 2 ^ n + t) / 2 ^ (k + n) ≡ 0 = div-eq_of_lt fits in
    let first : u (length list) (value list + 0) ≡ list = ap (u (length list)) (omega arith) ∙ u-value 0 list in
    ap (λ m. u m (value (list ++ u k high) * 2 ^ n + t)) long
    ∙ ap (u (length list + (k + n))) same
    ∙ u-join (length list) (k + n) (value list) (high * 2 ^ n + t)
    ∙ ap (λ z. u (length list) (value list + z) ++ u (k + n) (high * 2 ^ n + t)) none
    ∙ ap (λ l. l ++ u (k + n) (high * 2 ^ n + t)) first

-- ---- one digit of a number

value_at : (a : ℕ) (list : List Bool) → value_after a list ≡ a * 2 ^ length list + value list
value_at a list = ap (value_after a) (sym (u-value 0 list)) ∙ value-u a (length list) (value list) ∙ ap (λ m. a * 2 ^ length list + m) (mod-eq_of_lt (value_below list))

both : (a b x p v : ℕ) → (2 * a + b) * p + v + x * p ≡ (2 * a + x) * p + v + b * p
both a b x p v = omega arith

exchanged_after : (a : ℕ) (list : List Bool) (i k : ℕ) (b d : Bool) → length list ≡ i + suc k → value_after a (set list i b) + digit (get_or list i d) * 2 ^ k ≡ value_after a list + digit b * 2 ^ k
unfolding value_after
exchanged_after a [] i k b d e = absurd (omega arith)
exchanged_after a (x ∷ list) zero k b d e =
    let n : length list ≡ k = omega arith in
    rw (value_at (2 * a + digit b) list, value_at (2 * a + digit x) list, n) (both a (digit b) (digit x) (2 ^ k) (value list))
exchanged_after a (x ∷ list) (suc i) k b d e = exchanged_after (2 * a + digit x) list i k b d (omega arith)

pub exchanged : (list : List Bool) (i k : ℕ) (b d : Bool) → length list ≡ i + suc k → value (set list i b) + digit (get_or list i d) * 2 ^ k ≡ value list + digit b * 2 ^ k
exchanged list i k b d e = exchanged_after 0 list i k b d e

-- ---- bytes

pub bytes_are_bytes : (n v : ℕ) → AreBytes (bytes_of n v)
bytes_are_bytes zero v = tt
bytes_are_bytes (suc n) v = (mod-lt (v / 256 ^ n) (omega arith), bytes_are_bytes n v)

bytes_power : (n : ℕ) → 2 ^ (8 * n) ≡ 256 ^ n
bytes_power zero = refl
bytes_power (suc n) = let e : 8 * suc n ≡ 8 + 8 * n = omega arith in ap (λ m. 2 ^ m) e ∙ pow-add 2 8 (8 * n) ∙ ap (λ p. 256 * p) (bytes_power n) ∙ mul_comm 256 (256 ^ n) ∙ sym (pow-suc 256 n)

pub bits-bytes_of : (n v : ℕ) → bits (bytes_of n v) ≡ u (8 * n) v
unfolding u
bits-bytes_of zero v = refl
bits-bytes_of (suc n) v =
    let e : 8 * suc n ≡ 8 + 8 * n = omega arith in
    let first : u 8 (v / 256 ^ n % 256) ≡ u 8 (v / 2 ^ (8 * n)) = u-mod 8 (v / 256 ^ n) ∙ ap (λ p. u 8 (v / p)) (sym (bytes_power n)) in
    ap (λ l. l ++ bits (bytes_of n v)) first ∙ ap (λ l. u 8 (v / 2 ^ (8 * n)) ++ l) (bits-bytes_of n v) ∙ sym (u-split 8 (8 * n) v) ∙ ap (λ k. u k v) (sym e)
