-- The stop bit and its zeros.
use Rattle.std.proofs.Common.{◌≡◌, refl, sym, ◌∙◌, ap, subst, ℕ, zero, suc, ◌+◌, ◌-◌, ◌*◌, ◌/◌, ◌%◌, ◌^◌, ◌<◌, ◌≤◌, Bool, true, false, List, [], ◌∷◌, ◌++◌, length, take, drop, get_or, Some, None, bit_and, length-append, arith}
use Rattle.std.proofs.lemmas.Bool.{agree_below, agree_below_at}
use Rattle.std.proofs.lemmas.List.{take_at, drop_at, drop-drop, drop_more, drop-append-le}
use Rattle.std.specs.Prelude.{◌==◌, ◌&&◌, if◌then◌else◌}
use Rattle.h265_model.specs.Bits.{u, bits, all_zero, read_alignment}
use Rattle.h265_model.specs.Plain.{AreBytes}
use Rattle.h265_model.proofs.BitLaws.{length-u}
use Rattle.h265_model.proofs.ByteLaws.{length-bits, length-bits-mod}
use Rattle.cabac_dec.specs.State.{last_of, last_read, left, reading, IsWindow}
use Rattle.cabac_dec.proofs.Parts.{drop-bits}

-- the bit read last stands before the bits left
pub last_step : (bs : List Bool) (n : ℕ) (l : Bool) → n < length bs → last_of l (take (suc n) bs) ∷ drop (suc n) bs ≡ drop n bs
last_step [] n l h = absurd (omega arith)
last_step (b ∷ bs) zero l h = refl
last_step (b ∷ bs) (suc n) l h = last_step bs n b (omega arith)

drop-u : (m n w v : ℕ) → w ≡ m + n → drop m (u w v) ≡ u n v
unfolding u
drop-u zero n w v h = ap (λ k. u k v) (let e : w ≡ n = omega arith in e)
drop-u (suc m) n zero v h = absurd (omega arith)
drop-u (suc m) n (suc w) v h = drop-u m n w v (omega arith)

-- the test of the code, for each count of zeros and each byte
stops : ℕ → ℕ → Bool
stops k b = (b / 2 ^ k % 2 == 1) && all_zero (u k b)

tested : ℕ → ℕ → Bool
tested k b = bit_and b (2 * 2 ^ k % 2 ^ 32 - 1) == 1 * 2 ^ k % 2 ^ 32

all_tested : agree_below (λ n. tested (n / 256) (n % 256)) (λ n. stops (n / 256) (n % 256)) 2048 ≡ true
unfolding u tested stops
all_tested = refl

byte_at : (list : List ℕ) (i : ℕ) → AreBytes list → get_or list i 0 < 256
byte_at [] i h = omega arith
byte_at (x ∷ list) zero h = h.0
byte_at (x ∷ list) (suc i) h = byte_at list i h.1

stop_by : (x : Bool) (bs rest : List Bool) (k : ℕ) → length bs ≡ k → k < 8 → length rest % 8 ≡ 0
    → read_alignment (x ∷ (bs ++ rest)) ≡ (if x && all_zero bs then Some rest else None)
unfolding read_alignment
stop_by false bs rest k long few whole = refl
stop_by true bs rest k long few whole =
    let n : length (bs ++ rest) % 8 ≡ k = omega (arith, length-append bs rest) in
    rw (n, take_at bs rest k long, drop_at bs rest k long) refl

-- the bits from a stop bit on
from_stop : (bytes : List ℕ) (at k b : ℕ) → 0 < at → at ≤ length bytes → k < 8 → b ≡ get_or bytes (at - 1) 0
    → drop (8 * at - suc k) (bits bytes) ≡ u (suc k) b ++ bits (drop at bytes)
from_stop bytes at k b some within few is =
    let place : 8 * at - suc k ≡ 8 * (at - 1) + (7 - k) = omega arith in
    let next : at - 1 + 1 ≡ at = omega arith in
    ap (λ n. drop n (bits bytes)) place ∙ sym (drop-drop (7 - k) (8 * (at - 1)) (bits bytes))
    ∙ ap (drop (7 - k)) (drop-bits bytes (at - 1) (omega arith)
    ∙ ap bits (drop_more bytes (at - 1) 0 (omega arith) ∙ ap (λ x. x ∷ drop (at - 1 + 1) bytes) (sym is) ∙ ap (λ n. b ∷ drop n bytes) next))
    ∙ drop-append-le (7 - k) (u 8 b) (bits (drop at bytes)) (omega (arith, length-u 8 b))
    ∙ ap (λ l. l ++ bits (drop at bytes)) (drop-u (7 - k) (suc k) 8 b (omega arith))

tested_is : (k b : ℕ) → k < 8 → b < 256 → tested k b ≡ stops k b
tested_is k b few byte =
    let n = k * 256 + b in
    let e = agree_below_at (λ n. tested (n / 256) (n % 256)) (λ n. stops (n / 256) (n % 256)) 2048 n all_tested (omega arith) in
    let high : n / 256 ≡ k = omega arith in
    let low : n % 256 ≡ b = omega arith in
    rw (high, low) at e

-- what the test of a byte says of the bits from the last one read on
pub aligned_at : (bytes : List ℕ) (next value ahead b : ℕ) → IsWindow bytes next value ahead → 0 < 8 * next - ahead → b ≡ get_or bytes (next - ahead / 8 - 1) 0
    → read_alignment (last_read (reading bytes next value ahead) ∷ left (reading bytes next value ahead))
    ≡ (if bit_and b (2 * 2 ^ (ahead % 8) % 2 ^ 32 - 1) == 1 * 2 ^ (ahead % 8) % 2 ^ 32 then Some (bits (drop (next - ahead / 8) bytes)) else None)
unfolding u tested stops
aligned_at bytes next value ahead b w some is =
    let k = ahead % 8 in
    let at = next - ahead / 8 in
    let place = 8 * next - ahead in
    let before = place - 1 in
    let within = w.within in
    let suc_before : place ≡ suc before = omega arith in
    let there : before ≡ 8 * at - suc k = omega arith in
    let byte : b < 256 = subst (λ n. n < 256) (sym is) (byte_at bytes (at - 1) w.are_bytes) in
    let whole : length (bits (drop at bytes)) % 8 ≡ 0 = length-bits-mod (drop at bytes) in
    ap (λ n. read_alignment (last_of false (take n (bits bytes)) ∷ drop n (bits bytes))) suc_before
    ∙ ap read_alignment (last_step (bits bytes) before false (omega (arith, length-bits bytes))
    ∙ ap (λ n. drop n (bits bytes)) there ∙ from_stop bytes at k b (omega arith) (omega arith) (omega arith) is)
    ∙ stop_by (b / 2 ^ k % 2 == 1) (u k b) (bits (drop at bytes)) k (length-u k b) (omega arith) whole
    ∙ ap (λ t. if t then Some (bits (drop at bytes)) else None) (sym (tested_is k b (omega arith) byte))
