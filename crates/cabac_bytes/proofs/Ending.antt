-- The end of a run of bins.
use Rattle.std.proofs.Common.{◌≡◌, refl, sym, ◌∙◌, ap, ℕ, zero, suc, ◌+◌, ◌*◌, ◌-◌, ◌/◌, ◌%◌, ◌^◌, ◌<◌, ◌≤◌, List, [], ◌∷◌, ◌++◌, length, append_assoc, length-append, pow-suc, mod-eq_of_lt, arith}
use Rattle.std.proofs.lemmas.Nat.{pow_pos, pow-add, mul-le}
use Rattle.std.proofs.Math.Nat.{div-eq_of_lt, mul-add-div_right}
use Rattle.std.specs.Prelude.{Option}
use Rattle.h265_model.specs.Plain.{AreBytes}
use Rattle.h265_model.specs.Code.{bytes_of, closing, put_bin}
use Rattle.h265_model.proofs.ListParts.{all_append, all_front}
use Rattle.cabac_bytes.specs.Pending.{Pending, number, kept, limit, Closes}
use Rattle.cabac_bytes.specs.State.{State, Ends, IsState}
use Rattle.cabac_bytes.proofs.Numbers.{number-append}
use Rattle.cabac_bytes.proofs.Steps.{low_small, power_small}
use Rattle.cabac_bytes.proofs.Closing.{bytes_power, bytes_positive}

-- ---- bytes of their number

number_below : (l : List ℕ) → AreBytes l → number l < 256 ^ length l
number_below [] h = omega arith
number_below (x ∷ l) h =
    let i = number_below l h.1 in
    let e : 256 ^ suc (length l) ≡ 256 ^ length l * 256 = pow-suc 256 (length l) in
    let m : (x + 1) * 256 ^ length l ≤ 256 * 256 ^ length l = mul-le (x + 1) (256 ^ length l) 256 (256 ^ length l) (omega arith) (omega arith) in
    omega arith

quotient : (a p r : ℕ) → 0 < p → (a * p + r) / p ≡ a + r / p
quotient a p r h = mul-add-div_right h a r

whole_power : (a p r q : ℕ) → q ≡ p * 256 → a * q + r ≡ (a * 256) * p + r
whole_power a p r q e = rw e (omega arith)

low_byte : (a b : ℕ) → (a * 256 + b) % 256 ≡ b % 256
low_byte a b = omega arith

bytes_of_low : (n a r : ℕ) → bytes_of n (a * 256 ^ n + r) ≡ bytes_of n r
bytes_of_low zero a r = refl
bytes_of_low (suc n) a r =
    let p = bytes_positive n in
    let w : a * 256 ^ suc n + r ≡ (a * 256) * 256 ^ n + r = whole_power a (256 ^ n) r (256 ^ suc n) (pow-suc 256 n) in
    let head : (a * 256 ^ suc n + r) / 256 ^ n % 256 ≡ r / 256 ^ n % 256 = ap (λ v. v / 256 ^ n % 256) w ∙ ap (λ v. v % 256) (quotient (a * 256) (256 ^ n) r p) ∙ low_byte a (r / 256 ^ n) in
    let tail : bytes_of n (a * 256 ^ suc n + r) ≡ bytes_of n r = ap (bytes_of n) w ∙ bytes_of_low n (a * 256) r in
    rw (head, tail) refl

bytes_of_number : (l : List ℕ) → AreBytes l → bytes_of (length l) (number l) ≡ l
bytes_of_number [] h = refl
bytes_of_number (x ∷ l) h =
    let n : ℕ = length l in
    let below = number_below l h.1 in
    let none : number l / 256 ^ n ≡ 0 = div-eq_of_lt below in
    let head : (x * 256 ^ n + number l) / 256 ^ n % 256 ≡ x = ap (λ v. v % 256) (quotient x (256 ^ n) (number l) (bytes_positive n)) ∙ (rw none (let s : (x + 0) % 256 ≡ x = omega arith in s)) in
    let tail : bytes_of n (x * 256 ^ n + number l) ≡ l = bytes_of_low n x (number l) ∙ bytes_of_number l h.1 in
    rw (head, tail) refl

last_bytes : (l : List ℕ) (low count bytes : ℕ) → AreBytes l → length l ≡ bytes → bytes ≡ (count + 16) / 8 → number l ≡ (low / 2 * 2 + 1) * 2 ^ (8 * bytes - (count + 9)) → l ≡ closing low count
unfolding closing
last_bytes l low count bytes h long is value =
    sym (bytes_of_number l h) ∙ ap (λ n. bytes_of n (number l)) long ∙ ap (bytes_of bytes) value ∙ ap (λ b. bytes_of b ((low / 2 * 2 + 1) * 2 ^ (8 * b - (count + 9)))) is

-- ---- the last number

pub record Last (held : Option ℕ) (w y : ℕ) : Type 0 where
  pub shifted : y * 2 ^ (8 * ((w + 7) / 8) - w) % 2 ^ 64 ≡ y * 2 ^ (8 * ((w + 7) / 8) - w)
  pub fits : y * 2 ^ (8 * ((w + 7) / 8) - w) % 2 ^ 64 < limit held * 256 ^ ((w + 7) / 8)

reorder : (l p q : ℕ) → (l * p) * q ≡ l * (p * q)
reorder l p q = omega arith

above : (y m q : ℕ) → 0 < q → (y + 1) * q ≤ m → y * q < m
above y m q h k = omega arith

pub last : (held : Option ℕ) (w low range : ℕ) → 9 ≤ w → w ≤ 41 → 256 ≤ range → low + range ≤ limit held * 2 ^ w → Last held w ((low + (range - 2)) / 2 * 2 + 1)
last held w low range from to some room =
    let y : ℕ = (low + (range - 2)) / 2 * 2 + 1 in
    let c : ℕ = (w + 7) / 8 in
    let d : ℕ = 8 * c - w in
    let few : d ≤ 7 = omega arith in
    let small = low_small held w low range to room in
    let p = power_small d 7 few in
    let m : y * 2 ^ d ≤ 2 ^ 42 * 2 ^ 7 = mul-le y (2 ^ d) (2 ^ 42) (2 ^ 7) (omega arith) p in
    let s : y * 2 ^ d % 2 ^ 64 ≡ y * 2 ^ d = mod-eq_of_lt (omega arith) in
    let sum : 8 * c ≡ w + d = omega arith in
    let e : limit held * 256 ^ c ≡ (limit held * 2 ^ w) * 2 ^ d =
    ap (λ n. limit held * n) (sym (bytes_power c) ∙ ap (λ n. 2 ^ n) sum ∙ pow-add 2 w d) ∙ sym (reorder (limit held) (2 ^ w) (2 ^ d)) in
    let g : (y + 1) * 2 ^ d ≤ (limit held * 2 ^ w) * 2 ^ d = mul-le (y + 1) (2 ^ d) (limit held * 2 ^ w) (2 ^ d) (omega arith) (omega arith) in
    record { shifted = s; fits = rw (s, e) (above y ((limit held * 2 ^ w) * 2 ^ d) (2 ^ d) (pow_pos d) g) }

-- ---- what the bytes are

three : (a k y p q r : ℕ) → r ≡ p * q → a * r + (k * q + y) ≡ (a * p + k) * q + y
three a k y p q r e = rw e (omega arith)

even_part : (n h x : ℕ) → (n * (h * 2) + x) / 2 * 2 + 1 ≡ n * (h * 2) + (x / 2 * 2 + 1)
even_part n h x = let e : n * (h * 2) ≡ 2 * (n * h) = omega arith in rw e (omega arith)

even_power : (w : ℕ) → 0 < w → 2 ^ w ≡ 2 ^ (w - 1) * 2
even_power zero h = absurd (omega arith)
even_power (suc w) h = let e : suc w - 1 ≡ w = omega arith in rw e (pow-suc 2 w)

spread : (n p y q : ℕ) → (n * p + y) * q ≡ n * (p * q) + y * q
spread n p y q = omega arith

pub ended : (s : State) (new : Pending) (last : ℕ) → IsState s → 0 < s.range → last ≡ ((s.low + (s.range - 2)) / 2 * 2 + 1) * 2 ^ (8 * ((s.width + 7) / 8) - s.width) → Closes last ((s.width + 7) / 8) s.pending new →
    Ends s (record s { pending = new; low = 0; width = 9; range = 0 })
unfolding put_bin
ended s new last i some is k = record {
  shows = λ c h. (
      let e : s.range ≡ c.range = h.range in
      let w : ℕ = s.width in
      let from = i.from in
      let to = i.to in
      let least = i.least some in
      let cnt : ℕ = (w + 7) / 8 in
      let d : ℕ = 8 * cnt - w in
      let was : List ℕ = kept s.pending.held s.pending.run in
      let D : List ℕ = h.settled ++ was in
      let x : ℕ = s.low + (s.range - 2) in
      let y : ℕ = x / 2 * 2 + 1 in
      let all : List ℕ = h.settled ++ k.more in
      let bytes : AreBytes all = all_append _ h.settled k.more (all_front _ h.settled was h.bytes) k.bytes in
      let long : length all ≡ length D + cnt = omega (arith, length-append h.settled k.more, length-append h.settled was, k.long) in
      let many : length D + cnt ≡ (c.count + 16) / 8 = (let n = h.count in omega arith) in
      let power : 256 ^ length k.more ≡ 256 ^ length was * 256 ^ cnt = ap (λ n. 256 ^ n) k.long ∙ pow-add 256 (length was) cnt in
      let value : number all ≡ number D * 256 ^ cnt + last =
      number-append h.settled k.more ∙ (rw k.value (three (number h.settled) (number was) last (256 ^ length was) (256 ^ cnt) (256 ^ length k.more) power)) ∙ ap (λ n. n * 256 ^ cnt + last) (sym (number-append h.settled was)) in
      let low : c.low + (s.range - 2) ≡ number D * 2 ^ w + x = (let n = h.low in omega arith) in
      let half : (c.low + (s.range - 2)) / 2 * 2 + 1 ≡ number D * 2 ^ w + y =
      rw low (rw (even_power w (omega arith)) (even_part (number D) (2 ^ (w - 1)) x)) in
      let pad : 8 * (length D + cnt) - (c.count + 9) ≡ d = (let n = h.count in omega arith) in
      let sum : w + d ≡ 8 * cnt = omega arith in
      let high : 2 ^ w * 2 ^ d ≡ 256 ^ cnt = sym (pow-add 2 w d) ∙ ap (λ n. 2 ^ n) sum ∙ bytes_power cnt in
      let right : ((c.low + (s.range - 2)) / 2 * 2 + 1) * 2 ^ (8 * (length D + cnt) - (c.count + 9)) ≡ number D * 256 ^ cnt + last =
      rw (half, pad) (spread (number D) (2 ^ w) y (2 ^ d) ∙ rw (high, is) refl) in
      let last_is : all ≡ closing (c.low + (s.range - 2)) c.count = last_bytes all (c.low + (s.range - 2)) c.count (length D + cnt) bytes long many (value ∙ sym right) in
      rw (← e) (record {
        out = ap (λ (p : Pending). p.out) k.is ∙ ap (λ l. l ++ k.more) h.out ∙ append_assoc c.done h.settled k.more ∙ ap (λ l. c.done ++ l) last_is;
        coding = refl;
        contexts = h.contexts;
      }));
  range = refl;
}
