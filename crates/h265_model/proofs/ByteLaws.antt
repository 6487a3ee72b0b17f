-- Laws of bits and bytes: each spells the other.
use Rattle.std.proofs.Common.{◌≡◌, ℕ, ◌+◌, ◌*◌, ◌/◌, ◌%◌, ◌^◌, ◌<◌, ◌≤◌, Bool, true, false, List, [], ◌∷◌, ◌++◌, length, refl, sym, ◌∙◌, ap, arith, pow-suc, length-append}
use Rattle.std.specs.Prelude.{◌==◌}
use Rattle.std.proofs.lemmas.Bool.Decides.{nat_tests}
use Rattle.std.proofs.lemmas.Nat.{shr_high}
use Rattle.std.proofs.lemmas.List.Concat.{flat_map-append}
use Rattle.h265_model.specs.Plain.{AreBytes}
use Rattle.h265_model.specs.Bits.{u, digit, value_after, value, bits, bytes}
use Rattle.h265_model.proofs.BitLaws.{shifted, value-u, length-u}

digit_times : (b : Bool) (p : ℕ) → digit b * p ≤ p
digit_times true p = omega arith
digit_times false p = omega arith

pub record Split (n a v : ℕ) : Type 0 where
  pub low : ℕ
  pub below : low < 2 ^ n
  pub is : v ≡ a * 2 ^ n + low

pub value_after-split : (a : ℕ) (bs : List Bool) → Split (length bs) a (value_after a bs)
unfolding value_after
value_after-split a [] = record { low = 0; below = omega arith; is = omega arith }
value_after-split a (b ∷ bs) =
    let others = value_after-split (2 * a + digit b) bs in
    let p = 2 ^ length bs in
    let double = pow-suc 2 (length bs) in
    let small : digit b * p ≤ p = digit_times b p in
    record {
      low = digit b * p + others.low;
      below = omega (arith, others.below, double, small);
      is = others.is ∙ shifted a (digit b) p others.low ∙ ap (λ m. a * m + (digit b * p + others.low)) (sym double);
    }

top_digit : (a : ℕ) (b : Bool) → ((2 * a + digit b) % 2 == 1) ≡ b
top_digit a true = grind (arith, nat_tests)
top_digit a false = grind (arith, nat_tests)

-- bits are the digits of the number that they spell
pub u-value : (a : ℕ) (bs : List Bool) → u (length bs) (value_after a bs) ≡ bs
unfolding u value_after
u-value a [] = refl
u-value a (b ∷ bs) =
    let s = value_after-split (2 * a + digit b) bs in
    let top : value_after (2 * a + digit b) bs / 2 ^ length bs ≡ 2 * a + digit b = ap (λ v. v / 2 ^ length bs) s.is ∙ shr_high (2 * a + digit b) (length bs) s.low s.below in
    rw (top, top_digit a b, u-value (2 * a + digit b) bs)

pub value_below : (bs : List Bool) → value bs < 2 ^ length bs
value_below bs = let s = value_after-split 0 bs in omega (arith, s.is, s.below)

-- ---- bytes

pub bits-bytes : (bs : List Bool) → length bs % 8 ≡ 0 → bits (bytes bs) ≡ bs
unfolding bytes
bits-bytes (a ∷ b ∷ c ∷ d ∷ e ∷ f ∷ g ∷ h ∷ rest) whole =
    ap (λ l. l ++ bits (bytes rest)) (u-value 0 (a ∷ b ∷ c ∷ d ∷ e ∷ f ∷ g ∷ h ∷ []))
    ∙ ap (λ l. a ∷ b ∷ c ∷ d ∷ e ∷ f ∷ g ∷ h ∷ l) (bits-bytes rest (omega arith))
bits-bytes [] whole = refl
bits-bytes _ whole = absurd (omega arith)

byte_front : (v : ℕ) (rest : List Bool) → bytes (u 8 v ++ rest) ≡ value (u 8 v) ∷ bytes rest
unfolding bytes u
byte_front v rest = refl

byte_value : (v : ℕ) → v < 256 → 0 * 256 + v % 256 ≡ v
byte_value v h = omega arith

pub bytes-bits : (list : List ℕ) → AreBytes list → bytes (bits list) ≡ list
unfolding bytes
bytes-bits [] h = refl
bytes-bits (v ∷ list) h =
    byte_front v (bits list) ∙ ap (λ b. b ∷ bytes (bits list)) (value-u 0 8 v ∙ byte_value v h.0) ∙ ap (λ l. v ∷ l) (bytes-bits list h.1)

pub bits-append : (xs ys : List ℕ) → bits (xs ++ ys) ≡ bits xs ++ bits ys
bits-append xs ys = flat_map-append (u 8) xs ys

pub length-bits : (list : List ℕ) → length (bits list) ≡ 8 * length list
length-bits [] = refl
length-bits (v ∷ list) = omega (arith, length-append (u 8 v) (bits list), length-u 8 v, length-bits list)

whole : (n : ℕ) → 8 * n % 8 ≡ 0
whole n = omega arith

pub length-bits-mod : (list : List ℕ) → length (bits list) % 8 ≡ 0
length-bits-mod list = ap (λ m. m % 8) (length-bits list) ∙ whole (length list)
