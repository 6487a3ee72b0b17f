-- The end of a run of bins.
use Rattle.std.proofs.Common.{◌≡◌, refl, sym, ◌∙◌, ap, ℕ, ◌+◌, ◌*◌, ◌-◌, ◌/◌, ◌%◌, ◌^◌, ◌<◌, ◌≤◌, false, List, Bool, ◌++◌, length, length-append, mod-eq_of_lt, arith}
use Rattle.std.proofs.lemmas.Nat.{pow_pos, pow-add, mul-le}
use Rattle.std.proofs.Math.Nat.{pow-le-pow_right}
use Rattle.h265_model.specs.Bits.{u, value, bits}
use Rattle.h265_model.specs.Code.{bytes_of, closing, put_bin}
use Rattle.h265_model.proofs.BitLaws.{length-u}
use Rattle.h265_model.proofs.ByteLaws.{length-bits, bits-append}
use Rattle.h265_model.proofs.ListParts.{all_append}
use Rattle.cabac_enc.specs.State.{State, Ends, IsState}
use Rattle.cabac_enc.proofs.Digits.{grown, bits-bytes_of, bytes_are_bytes}

-- ---- the last digits

pub record Last (number zeros : ℕ) : Type 0 where
  pub shifted : number * 2 ^ zeros % 2 ^ 32 ≡ number * 2 ^ zeros
  pub fits : number * 2 ^ zeros % 2 ^ 32 < 2 * 2 ^ (9 + zeros)

doubled_power : (p : ℕ) → 2 * (512 * p) ≡ 1024 * p
doubled_power p = omega arith

strict : (n m p : ℕ) → n + 1 ≤ m → 0 < p → n * p < m * p
strict n m p h k = let f : (n + 1) * p ≤ m * p = mul-le (n + 1) p m p h (omega arith) in omega arith

pub last : (number zeros : ℕ) → number < 1024 → zeros ≤ 7 → Last number zeros
last number zeros small few =
    let positive : 0 < 2 = omega arith in
    let p : 2 ^ zeros ≤ 2 ^ 7 = pow-le-pow_right positive few in
    let s : number * 2 ^ zeros < 1024 * 2 ^ zeros = strict number 1024 (2 ^ zeros) (omega arith) (pow_pos zeros) in
    let e : number * 2 ^ zeros % 2 ^ 32 ≡ number * 2 ^ zeros = mod-eq_of_lt (omega arith) in
    let w : 2 * 2 ^ (9 + zeros) ≡ 1024 * 2 ^ zeros = ap (λ n. 2 * n) (pow-add 2 9 zeros) ∙ doubled_power (2 ^ zeros) in
    record { shifted = e; fits = rw (e, w) s }

-- ---- what the bits are

odd : (h x n : ℕ) → h * 512 + x ≡ n → n / 2 * 2 + 1 ≡ h * 512 + (x / 2 * 2 + 1)
odd h x n e = omega arith

regroup : (h y p : ℕ) → (h * 512 + y) * p ≡ h * (512 * p) + y * p
regroup h y p = omega arith

pub ended : (s : State) (list : List Bool) (zeros number : ℕ) → IsState s → 0 < s.range → zeros ≡ 7 - length s.bits % 8 → number ≡ (s.low + (s.range - 2)) / 2 * 2 + 1 →
    list ≡ u (length s.bits + (9 + zeros)) (value s.bits * 2 ^ (9 + zeros) + number * 2 ^ zeros) →
    Ends s (record { bits = list; low = 0; range = 0; after_samples = false; contexts = s.contexts })
unfolding put_bin closing
ended s list zeros number i some is_zeros is_number is = record {
  shows = λ c h. (
      let e : s.range ≡ c.range = h.range in
      let least = i.least some in
      let l = h.low in
      let r = h.room in
      let x : ℕ = s.low + (s.range - 2) in
      let low : h.high * 512 + x ≡ c.low + (s.range - 2) = omega arith in
      let whole : (c.low + (s.range - 2)) / 2 * 2 + 1 ≡ h.high * 512 + number = odd h.high x (c.low + (s.range - 2)) low ∙ ap (λ y. h.high * 512 + y) (sym is_number) in
      let long : length s.bits ≡ 8 * length c.done + c.count = ap length h.holds.bits ∙ omega (arith, length-append (bits c.done) (u c.count h.high), length-u c.count h.high, length-bits c.done) in
      let many : ℕ = (c.count + 16) / 8 in
      let all : 8 * many ≡ c.count + (9 + zeros) = omega arith in
      let pad : 8 * many - (c.count + 9) ≡ zeros = omega arith in
      let same : (h.high * 512 + number) * 2 ^ zeros ≡ h.high * 2 ^ (9 + zeros) + number * 2 ^ zeros =
      regroup h.high number (2 ^ zeros) ∙ ap (λ p. h.high * p + number * 2 ^ zeros) (sym (pow-add 2 9 zeros)) in
      let room : h.high * 512 + number + 1 ≤ 2 ^ (c.count + 9) = omega arith in
      let power : 2 ^ (c.count + 9) * 2 ^ zeros ≡ 2 ^ (c.count + (9 + zeros)) = sym (pow-add 2 (c.count + 9) zeros) ∙ ap (λ n. 2 ^ n) (omega arith) in
      let fits : h.high * 2 ^ (9 + zeros) + number * 2 ^ zeros < 2 ^ (c.count + (9 + zeros)) =
      rw (← same, ← power) (strict (h.high * 512 + number) (2 ^ (c.count + 9)) (2 ^ zeros) room (pow_pos zeros)) in
      let digits : list ≡ bits c.done ++ u (c.count + (9 + zeros)) (h.high * 2 ^ (9 + zeros) + number * 2 ^ zeros) =
      is ∙ ap (λ b. u (length b + (9 + zeros)) (value b * 2 ^ (9 + zeros) + number * 2 ^ zeros)) h.holds.bits ∙ grown (bits c.done) h.high c.count (9 + zeros) (number * 2 ^ zeros) h.holds.below fits in
      let closed : bits (bytes_of many ((h.high * 512 + number) * 2 ^ zeros)) ≡ u (c.count + (9 + zeros)) (h.high * 2 ^ (9 + zeros) + number * 2 ^ zeros) =
      bits-bytes_of many ((h.high * 512 + number) * 2 ^ zeros) ∙ ap (λ n. u n ((h.high * 512 + number) * 2 ^ zeros)) all ∙ ap (u (c.count + (9 + zeros))) same in
      rw (← e, whole, pad) (record {
        bits = digits ∙ ap (λ b. bits c.done ++ b) (sym closed) ∙ sym (bits-append c.done (bytes_of many ((h.high * 512 + number) * 2 ^ zeros)));
        bytes = all_append _ c.done (bytes_of many ((h.high * 512 + number) * 2 ^ zeros)) h.holds.bytes (bytes_are_bytes many ((h.high * 512 + number) * 2 ^ zeros));
        coding = refl;
        contexts = h.holds.contexts;
      }));
  range = refl;
}
