-- Laws of a number's digits in parts.
use Rattle.std.proofs.Common.{◌≡◌, ℕ, zero, suc, ◌+◌, ◌-◌, ◌*◌, ◌/◌, ◌%◌, ◌^◌, ◌<◌, ◌≤◌, Bool, true, false, List, [], ◌∷◌, ◌++◌, length, replicate, refl, sym, ◌∙◌, ap, arith, append_assoc, length-append, pow-suc, mul_comm, inl, inr, get_or}
use Rattle.std.specs.Prelude.{◌==◌}
use Rattle.std.specs.Prelude.{bit_or, bit_and}
use Rattle.std.proofs.Math.Nat.{pow-le-pow_right}
use Rattle.std.proofs.lemmas.Nat.{pow_pos, shr_le, shl_whole, or_shifted, shr_high, mod_low, mod-pow-add, and_mask, one_shl}
use Rattle.std.proofs.lemmas.List.{append-nil}
use Rattle.h265_model.specs.Bits.{u, ue, bits, bytes, alignment}
use Rattle.h265_model.proofs.Digits.{u-mod, u-split}
use Rattle.h265_model.proofs.BitLaws.{length-u, digits_of, code_of}
use Rattle.h265_model.proofs.ByteLaws.{bits-append, length-bits, bytes-bits}
use Rattle.h265_model.specs.Plain.{AreBytes}
use Rattle.std.proofs.lemmas.Bool.{cases_lt}

pub u-same : (n v w : ℕ) → v % 2 ^ n ≡ w % 2 ^ n → u n v ≡ u n w
u-same n v w e = sym (u-mod n v) ∙ ap (u n) e ∙ u-mod n w

-- digits in two parts, of a number of them that is known otherwise
pub u-parts : (m n k v : ℕ) → k ≡ m + n → u k v ≡ u m (v / 2 ^ n) ++ u n v
u-parts m n k v e = ap (λ (c : ℕ). u c v) e ∙ u-split m n v

mod_below : (p v : ℕ) → 0 < p → v % p < p
mod_below p v h = omega arith

low_of_low : (m j v : ℕ) → v % 2 ^ (j + m) % 2 ^ m ≡ v % 2 ^ m
low_of_low m j v = ap (λ x. x % 2 ^ m) (mod-pow-add v j m) ∙ mod_low (v / 2 ^ m % 2 ^ j) m (v % 2 ^ m) (mod_below (2 ^ m) v (pow_pos m))

-- digits of the lowest byte
pub u-byte : (m v : ℕ) → m ≤ 8 → u m (v % 256) ≡ u m v
u-byte m v h =
    let whole : 8 ≡ 8 - m + m = omega arith in
    u-same m (v % 256) v (ap (λ n. v % 2 ^ n % 2 ^ m) whole ∙ low_of_low m (8 - m) v)

-- a number after another's digits
pub u-join : (m n a b : ℕ) → b < 2 ^ n → u (m + n) (a * 2 ^ n + b) ≡ u m a ++ u n b
u-join m n a b h =
    u-parts m n (m + n) (a * 2 ^ n + b) refl
    ∙ ap (λ x. u m x ++ u n (a * 2 ^ n + b)) (shr_high a n b h)
    ∙ ap (λ l. u m a ++ l) (sym (u-mod n (a * 2 ^ n + b)) ∙ ap (u n) (mod_low a n b h))

no_digit : (n : ℕ) → (0 / 2 ^ n % 2 == 1) ≡ false
no_digit n = let none : 0 / 2 ^ n ≡ 0 = omega (arith, shr_le 0 n) in rw none refl

pub u-zero : (n : ℕ) → u n 0 ≡ replicate n false
unfolding u
u-zero zero = refl
u-zero (suc n) = rw (no_digit n, u-zero n) refl

one_times : (p : ℕ) → p ≡ 1 * p + 0
one_times p = omega arith

no_rest : (p : ℕ) → 0 % p ≡ 0
no_rest p = omega arith

pub u-pow : (n : ℕ) → u (suc n) (2 ^ n) ≡ true ∷ replicate n false
unfolding u
u-pow n =
    let first : 2 ^ n / 2 ^ n ≡ 1 = ap (λ p. p / 2 ^ n) (one_times (2 ^ n)) ∙ shr_high 1 n 0 (pow_pos n) in
    let others : 2 ^ n % 2 ^ n ≡ 0 % 2 ^ n = ap (λ p. p % 2 ^ n) (one_times (2 ^ n)) ∙ mod_low 1 n 0 (pow_pos n) ∙ sym (no_rest (2 ^ n)) in
    rw first (ap (λ l. true ∷ l) (u-same n (2 ^ n) 0 others ∙ u-zero n))

-- ---- bytes and the bits after them

pub bits-push : (list : List ℕ) (b : ℕ) → bits (list ++ b ∷ []) ≡ bits list ++ u 8 b
bits-push list b = bits-append list (b ∷ []) ∙ ap (λ l. bits list ++ l) (append-nil (u 8 b))

-- the top byte of a word's low digits moves to the bytes
pub move_byte : (list : List ℕ) (left more word b : ℕ) → more ≡ 8 + left → b ≡ word / 2 ^ left % 256 → bits (list ++ b ∷ []) ++ u left word ≡ bits list ++ u more word
move_byte list left more word b e is =
    ap (λ l. l ++ u left word) (bits-push list b)
    ∙ append_assoc (bits list) (u 8 b) (u left word)
    ∙ ap (λ l. bits list ++ l) (ap (λ x. u 8 x ++ u left word) is ∙ ap (λ l. l ++ u left word) (u-mod 8 (word / 2 ^ left)) ∙ sym (u-parts 8 left more word e))

-- ---- what the writer computes

pub u-last : (m word : ℕ) → m ≤ 8 → u m (bit_and word 255) ≡ u m word
u-last m word h = ap (u m) (and_mask word 8) ∙ u-byte m word h

-- the bits that are held, shifted, and n more
pub u-word : (held n last v : ℕ) → last < 256 → n ≤ 32 → v < 2 ^ n → u (held + n) (bit_or (last * 2 ^ n % 2 ^ 64) v) ≡ u held last ++ u n v
u-word held n last v a b h =
    ap (λ x. u (held + n) (bit_or x v)) (shl_whole last 8 n 64 a (omega arith))
    ∙ ap (u (held + n)) (or_shifted last n v h)
    ∙ u-join held n last v h

length_held : (list : List ℕ) (held last : ℕ) → length (bits list ++ u held last) ≡ 8 * length list + held
length_held list held last = length-append (bits list) (u held last) ∙ ap (λ n. n + length (u held last)) (length-bits list) ∙ ap (λ n. 8 * length list + n) (length-u held last)

spare_bits : (k held n : ℕ) → held < 8 → n ≡ 8 * k + held → n % 8 ≡ held
spare_bits k held n h e = omega arith

pub u-alignment : (list : List ℕ) (held last : ℕ) (whole : List Bool) → bits list ++ u held last ≡ whole → held < 8 → u (7 - held + 1) (1 * 2 ^ (7 - held) % 2 ^ 32) ≡ alignment (length whole)
u-alignment list held last whole e h =
    let k = 7 - held in
    let spare : length whole % 8 ≡ held = spare_bits (length list) held (length whole) h (ap length (sym e) ∙ length_held list held last) in
    let digits : k + 1 ≡ suc k = omega arith in
    ap (λ p. u (k + 1) p) (one_shl k 32 (omega arith))
    ∙ ap (λ n. u n (2 ^ k)) digits
    ∙ u-pow k
    ∙ ap (λ n. true ∷ replicate (7 - n) false) (sym spare)

-- a number has one count of digits
one_count : (a b v : ℕ) → 2 ^ a ≤ v → v < 2 ^ suc b → a ≤ b
one_count a b v h k = elim (cases_lt b a) [
  | inl more ↦ let p : 2 ^ suc b ≤ 2 ^ a = pow-le-pow_right (omega arith) more in absurd (omega arith)
  | inr le ↦ le
]

wider : (m n : ℕ) → m ≤ n → 2 ^ m ≤ 2 ^ n
wider m n h = pow-le-pow_right (omega arith) h

pub ue-code : (v zeros : ℕ) → 2 ^ zeros ≤ v + 1 → v + 1 < 2 * 2 ^ zeros → zeros < 32 → replicate zeros false ++ u (zeros + 1) (v + 1) ≡ ue v
ue-code v zeros least below few =
    let next : 2 ^ suc zeros ≡ 2 * 2 ^ zeros = pow-suc 2 zeros ∙ mul_comm (2 ^ zeros) 2 in
    let wide : 2 ^ suc zeros ≤ 2 ^ 64 = wider (suc zeros) 64 (omega arith) in
    let d = digits_of 64 (v + 1) (omega arith) (omega arith) in
    let low : d.low ≤ zeros = one_count d.low zeros (v + 1) d.least (omega arith) in
    let high : zeros ≤ d.low = one_count zeros d.low (v + 1) least d.below in
    let same : zeros ≡ d.low = omega arith in
    let more : zeros + 1 ≡ suc d.low = omega arith in
    ap (λ n. replicate zeros false ++ u n (v + 1)) more
    ∙ ap (λ n. replicate n false ++ u (suc d.low) (v + 1)) same
    ∙ sym (code_of v d.low d.count)

pub are_bytes : (list : List ℕ) → ((k : ℕ) → k < length list → get_or list k 0 < 256) → AreBytes list
are_bytes [] h = tt
are_bytes (b ∷ list) h = (h 0 (omega arith), are_bytes list (λ k l. h (suc k) (omega arith)))

-- whole bytes alone are held
pub bytes-whole : (list : List ℕ) (held last : ℕ) (whole : List Bool) → bits list ++ u held last ≡ whole → held < 8 → length whole % 8 ≡ 0 → AreBytes list → list ≡ bytes whole
unfolding u
bytes-whole list zero last whole e h aligned all =
    sym (bytes-bits list all) ∙ ap bytes (sym (append-nil (bits list)) ∙ e)
bytes-whole list (suc held) last whole e h aligned all =
    let rest : length whole % 8 ≡ suc held = spare_bits (length list) (suc held) (length whole) h (ap length (sym e) ∙ length_held list (suc held) last) in
    absurd (omega arith)
