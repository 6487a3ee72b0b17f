-- The window: what stands in its word.
use Rattle.std.proofs.Common.{◌≡◌, refl, sym, ◌∙◌, ap, subst, ℕ, ◌+◌, ◌-◌, ◌*◌, ◌/◌, ◌%◌, ◌^◌, ◌<◌, ◌≤◌, Bool, true, List, length, take, drop, le-leb, arith}
use Rattle.std.proofs.lemmas.List.{length-take-le, length-drop, drop-drop, take_min}
use Rattle.std.proofs.lemmas.Nat.{pow_pos, pow-add, shr_high, mul-le, div_below}
use Rattle.std.proofs.Math.Seq.{take-add}
use Rattle.std.proofs.Math.Nat.{mod-eq_of_lt, pow-le-pow_right, lt_of_mul-lt-mul_right}
use Rattle.std.proofs.lemmas.Bool.Decides.{nat_tests}
use Rattle.std.specs.Prelude.{nat_le, min}
use Rattle.h265_model.specs.Bits.{value_after, value, bits}
use Rattle.h265_model.specs.Plain.{AreBytes}
use Rattle.h265_model.proofs.ByteLaws.{Split, value_after-split, value_below, length-bits}
use Rattle.cabac_dec.specs.State.{offset_after, IsWindow, reading}
use Rattle.cabac_dec.proofs.Parts.{value_after-append, in_front, drop-bits, take-bits, length_left}

-- ---- numbers

spread : (h p q low : ℕ) → (h * p + low) * q ≡ h * (p * q) + low * q
spread h p q low = omega arith

below_spread : (low p q : ℕ) → low < p → 0 < q → low * q < p * q
below_spread low p q h pos = mul-lt_by low p q h pos
  where
    mul-lt_by : (a b q : ℕ) → a < b → 0 < q → a * q < b * q
    mul-lt_by a b q h pos = let e : (a + 1) * q ≤ b * q = mul-le (a + 1) q b q (omega arith) (omega arith) in omega arith

lessened : (h less w r : ℕ) → less ≤ h → (h * w + r) - less * w ≡ (h - less) * w + r
lessened h less w r k =
    let d = h - less in
    let e : h ≡ d + less = omega arith in
    let f : (d + less) * w + r ≡ (d * w + r) + less * w = omega arith in
    let g : h * w + r ≡ (d * w + r) + less * w = ap (λ (n : ℕ). n * w + r) e ∙ f in
    omega arith

-- ---- a word with n bits of a list at hand

-- n bits are c bits and d more, and e zeros are below them
pub record Moved (c d e value offset less : ℕ) (l : List Bool) : Type 0 where
  pub head : value / 2 ^ (d + e) ≡ value_after offset (take c l)
  pub least : less * 2 ^ (d + e) ≤ value
  pub below : value - less * 2 ^ (d + e) < (value_after offset (take c l) - less + 1) * 2 ^ (d + e)
  pub moved : value - less * 2 ^ (d + e) ≡ value_after (value_after offset (take c l) - less) (take d (drop c l)) * 2 ^ e

pub moved : (c d e value offset less : ℕ) (l : List Bool) → c + d ≤ length l → value ≡ value_after offset (take (c + d) l) * 2 ^ e
    → less ≤ value_after offset (take c l) → Moved c d e value offset less l
moved c d e word offset less l long is enough =
    let h = value_after offset (take c l) in
    let rest = take d (drop c l) in
    let many : length rest ≡ d = length-take-le d (drop c l) (omega (arith, length-drop c l)) in
    let s : Split (length rest) h (value_after h rest) = value_after-split h rest in
    let p = 2 ^ d in
    let q = 2 ^ e in
    let w : 2 ^ (d + e) ≡ p * q = pow-add 2 d e in
    let pos : 0 < q = pow_pos e in
    let r = value_after 0 rest in
    let as_parts : value_after h rest ≡ h * p + r =
    ap (λ n. value_after n rest) (sym (add_zero h)) ∙ in_front h 0 rest ∙ ap (λ (n : ℕ). h * 2 ^ n + r) many in
    let small : r < p = subst (λ (n : ℕ). r < 2 ^ n) many (zero_split rest) in
    let whole : word ≡ h * 2 ^ (d + e) + r * q =
    is ∙ ap (λ k. value_after offset k * q) (take-add c d l) ∙ ap (λ n. n * q) (value_after-append offset (take c l) rest ∙ as_parts)
    ∙ spread h p q r ∙ ap (λ (n : ℕ). h * n + r * q) (sym w) in
    let few : r * q < 2 ^ (d + e) = subst (λ (n : ℕ). r * q < n) (sym w) (below_spread r p q small pos) in
    let less_now : word - less * 2 ^ (d + e) ≡ (h - less) * 2 ^ (d + e) + r * q = ap (λ n. n - less * 2 ^ (d + e)) whole ∙ lessened h less (2 ^ (d + e)) (r * q) enough in
    let most : less * 2 ^ (d + e) ≤ h * 2 ^ (d + e) = mul-le less (2 ^ (d + e)) h (2 ^ (d + e)) enough (omega arith) in
    record {
      head = ap (λ n. n / 2 ^ (d + e)) whole ∙ shr_high h (d + e) (r * q) few;
      least = omega arith;
      below = let f : (h - less + 1) * 2 ^ (d + e) ≡ (h - less) * 2 ^ (d + e) + 2 ^ (d + e) = omega arith in omega arith;
      moved = less_now ∙ ap (λ (n : ℕ). (h - less) * n + r * q) w ∙ sym (spread (h - less) p q r)
          ∙ ap (λ (n : ℕ). n * q) (ap (λ (n : ℕ). (h - less) * 2 ^ n + r) (sym many) ∙ sym (in_front (h - less) 0 rest) ∙ ap (λ n. value_after n rest) (add_zero (h - less)));
    }
  where
    add_zero : (n : ℕ) → n + 0 ≡ n
    add_zero n = omega arith

    zero_split : (bs : List Bool) → value_after 0 bs < 2 ^ length bs
    zero_split bs = let s = value_after-split 0 bs in omega (arith, s.is, s.below)

-- ---- a step of the window

pub record Advanced (bytes : List ℕ) (next value ahead count less : ℕ) : Type 0 where
  pub head : value / 2 ^ (54 - count) ≡ offset_after count (reading bytes next value ahead)
  pub least : less * 2 ^ (54 - count) % 2 ^ 64 ≤ value
  pub window : IsWindow bytes next ((value - less * 2 ^ (54 - count) % 2 ^ 64) * 2 ^ count % 2 ^ 64) (ahead - count)
  pub is : reading bytes next ((value - less * 2 ^ (54 - count) % 2 ^ 64) * 2 ^ count % 2 ^ 64) (ahead - count)
      ≡ record { bytes = bytes; place = 8 * next - ahead + count; offset = offset_after count (reading bytes next value ahead) - less; ahead = ahead - count }

-- how many bits are left at a window
pub long_enough : (bytes : List ℕ) (next value ahead : ℕ) → IsWindow bytes next value ahead → ahead ≤ length (drop (8 * next - ahead) (bits bytes))
long_enough bytes next value ahead w = let a = w.within in let b = w.fits in omega (arith, length_left bytes (8 * next - ahead))

small : (v : ℕ) → v < 2 ^ 64 → v % 2 ^ 64 ≡ v
small v h = mod-eq_of_lt h

pub at_hand : (bytes : List ℕ) (next value ahead count less : ℕ) → IsWindow bytes next value ahead → count ≤ ahead
    → less ≤ offset_after count (reading bytes next value ahead)
    → Moved count (ahead - count) (54 - ahead) value (value / 2 ^ 54) less (drop (8 * next - ahead) (bits bytes))
at_hand bytes next value ahead count less w ready least =
    let l = drop (8 * next - ahead) (bits bytes) in
    let d = ahead - count in
    let sum : ahead ≡ count + d = omega arith in
    let long : ahead ≤ length l = long_enough bytes next value ahead w in
    moved count d (54 - ahead) value (value / 2 ^ 54) less l (omega arith)
    (w.holds ∙ ap (λ n. value_after (value / 2 ^ 54) (take n l) * 2 ^ (54 - ahead)) sum) least

-- the offset is what stands at the top
pub offset_of : (d e value offset : ℕ) (l : List Bool) → d ≤ length l → value ≡ value_after offset (take d l) * 2 ^ e → d + e ≡ 54 → value / 2 ^ 54 ≡ offset
unfolding value_after
offset_of d e value offset l long is sum =
    let z : 0 + d ≡ d = omega arith in
    ap (λ (n : ℕ). value / 2 ^ n) (sym sum)
    ∙ (moved 0 d e value offset 0 l (omega arith) (is ∙ ap (λ n. value_after offset (take n l) * 2 ^ e) (sym z)) (omega arith)).head

pub advanced : (bytes : List ℕ) (next value ahead count less : ℕ) → IsWindow bytes next value ahead → value < 2 ^ 64 → count ≤ 20 → count ≤ ahead
    → less ≤ offset_after count (reading bytes next value ahead) → offset_after count (reading bytes next value ahead) < less + 1024
    → Advanced bytes next value ahead count less
advanced bytes next value ahead count less w fits few ready least most =
    let l = drop (8 * next - ahead) (bits bytes) in
    let d = ahead - count in
    let e = 54 - ahead in
    let h = offset_after count (reading bytes next value ahead) in
    let m = at_hand bytes next value ahead count less w ready least in
    let a = w.few in
    let b = w.fits in
    let width : d + e ≡ 54 - count = omega arith in
    let head : value / 2 ^ (54 - count) ≡ h = ap (λ (n : ℕ). value / 2 ^ n) (sym width) ∙ m.head in
    let enough : less * 2 ^ (54 - count) ≤ value = subst (λ (n : ℕ). less * 2 ^ n ≤ value) width m.least in
    let amount : less * 2 ^ (54 - count) % 2 ^ 64 ≡ less * 2 ^ (54 - count) = small (less * 2 ^ (54 - count)) (omega arith) in
    let rest = value - less * 2 ^ (54 - count) in
    let below : rest < (h - less + 1) * 2 ^ (54 - count) = subst (λ (n : ℕ). value - less * 2 ^ n < (h - less + 1) * 2 ^ n) width m.below in
    let power : 2 ^ (54 - count) * 2 ^ count ≡ 2 ^ 54 = sym (pow-add 2 (54 - count) count) ∙ ap (λ (n : ℕ). 2 ^ n) (let s : 54 - count + count ≡ 54 = omega arith in s) in
    let room : (h - less + 1) * 2 ^ (54 - count) ≤ 1024 * 2 ^ (54 - count) = mul-le (h - less + 1) (2 ^ (54 - count)) 1024 (2 ^ (54 - count)) (omega arith) (omega arith) in
    let scaled : rest * 2 ^ count < 2 ^ 64 = scaled_below rest (2 ^ (54 - count)) (2 ^ count) (omega arith) (pow_pos count) power in
    let value' = (value - less * 2 ^ (54 - count) % 2 ^ 64) * 2 ^ count % 2 ^ 64 in
    let now : value' ≡ rest * 2 ^ count = ap (λ n. (value - n) * 2 ^ count % 2 ^ 64) amount ∙ small (rest * 2 ^ count) scaled in
    let moved_now : rest ≡ value_after (h - less) (take d (drop count l)) * 2 ^ e = ap (λ (n : ℕ). value - less * 2 ^ n) (sym width) ∙ m.moved in
    let place : 8 * next - ahead + count ≡ 8 * next - d = omega arith in
    let l' : drop count l ≡ drop (8 * next - d) (bits bytes) = drop-drop count (8 * next - ahead) (bits bytes) ∙ ap (λ n. drop n (bits bytes)) place in
    let whole : value' ≡ value_after (h - less) (take d (drop (8 * next - d) (bits bytes))) * 2 ^ (54 - d) =
    now ∙ ap (λ n. n * 2 ^ count) (moved_now ∙ ap (λ k. value_after (h - less) (take d k) * 2 ^ e) l')
    ∙ scaled_power (value_after (h - less) (take d (drop (8 * next - d) (bits bytes)))) e count (54 - d) (omega arith) in
    let long : d ≤ length (drop (8 * next - d) (bits bytes)) = let i = w.within in omega (arith, length_left bytes (8 * next - d)) in
    let offset : value' / 2 ^ 54 ≡ h - less = offset_of d (54 - d) value' (h - less) (drop (8 * next - d) (bits bytes)) long whole (omega arith) in
    record {
      head = head;
      least = subst (λ n. n ≤ value) (sym amount) enough;
      window = record {
        within = w.within;
        few = omega arith;
        fits = omega arith;
        are_bytes = w.are_bytes;
        holds = subst (λ o. value' ≡ value_after o (take d (drop (8 * next - d) (bits bytes))) * 2 ^ (54 - d)) (sym offset) whole;
      };
      is = rw (offset, place) refl;
    }
  where
    scaled_below : (rest p q : ℕ) → rest < 1024 * p → 0 < q → p * q ≡ 2 ^ 54 → rest * q < 2 ^ 64
    scaled_below rest p q h pos e =
        let f : (rest + 1) * q ≤ 1024 * p * q = mul-le (rest + 1) q (1024 * p) q (omega arith) (omega arith) in
        let g : 1024 * p * q ≡ 1024 * (p * q) = omega arith in
        omega arith

    scaled_power : (v e c n : ℕ) → n ≡ e + c → v * 2 ^ e * 2 ^ c ≡ v * 2 ^ n
    scaled_power v e c n h = regroup v (2 ^ e) (2 ^ c) ∙ ap (λ (k : ℕ). v * k) (sym (pow-add 2 e c) ∙ ap (λ (k : ℕ). 2 ^ k) (sym h))
      where
        regroup : (v p q : ℕ) → v * p * q ≡ v * (p * q)
        regroup v p q = omega arith

pub head_at : (bytes : List ℕ) (next value ahead count : ℕ) → IsWindow bytes next value ahead → count ≤ ahead
    → value / 2 ^ (54 - count) ≡ offset_after count (reading bytes next value ahead)
head_at bytes next value ahead count w ready =
    let m = at_hand bytes next value ahead count 0 w ready (omega arith) in
    let few = w.few in
    ap (λ (n : ℕ). value / 2 ^ n) (let s : 54 - count ≡ ahead - count + (54 - ahead) = omega arith in s) ∙ m.head

pub wider : (m n : ℕ) → m ≤ n → 2 ^ m ≤ 2 ^ n
wider m n h = pow-le-pow_right (omega arith) h

pub head_fits : (value count : ℕ) → value < 2 ^ 64 → count ≤ 20 → value / 2 ^ (54 - count) < 2 ^ 32
head_fits value count h few =
    let p : 2 ^ 64 ≡ 2 ^ (10 + count) * 2 ^ (54 - count) = ap (λ (n : ℕ). 2 ^ n) (let s : 64 ≡ 10 + count + (54 - count) = omega arith in s) ∙ pow-add 2 (10 + count) (54 - count) in
    let q : 2 ^ (10 + count) ≤ 2 ^ 30 = wider (10 + count) 30 (omega arith) in
    let b : value / 2 ^ (54 - count) < 2 ^ (10 + count) = div_below value (2 ^ (54 - count)) (2 ^ (10 + count)) (pow_pos (54 - count)) (subst (λ n. value < n) p h) in
    omega arith

-- ---- a window at a byte

pub fresh_window : (bytes : List ℕ) (next : ℕ) → AreBytes bytes → next ≤ length bytes → IsWindow bytes next 0 0
unfolding value_after
fresh_window bytes next are h = record { within = h; few = omega arith; fits = omega arith; are_bytes = are; holds = refl }

-- ---- more bytes

pub record Refilled (bytes : List ℕ) (next value ahead some word : ℕ) : Type 0 where
  pub amount : word * 2 ^ (54 - ahead - 8 * some) % 2 ^ 64 ≡ word * 2 ^ (54 - ahead - 8 * some)
  pub fits : value + word * 2 ^ (54 - ahead - 8 * some) < 2 ^ 64
  pub window : IsWindow bytes (next + some) (value + word * 2 ^ (54 - ahead - 8 * some)) (ahead + 8 * some)
  pub is : reading bytes (next + some) (value + word * 2 ^ (54 - ahead - 8 * some)) (ahead + 8 * some)
      ≡ record (reading bytes next value ahead) { ahead = ahead + 8 * some }

pub refilled : (bytes : List ℕ) (next value ahead some word : ℕ) → IsWindow bytes next value ahead → value < 2 ^ 64 → ahead < 20
    → some ≡ min (length bytes - next) 4 → word ≡ value_after 0 (bits (take 4 (drop next bytes))) → Refilled bytes next value ahead some word
refilled bytes next value ahead some word w fits few is word_is =
    let l = drop (8 * next - ahead) (bits bytes) in
    let rest = drop next bytes in
    let x = value_after (value / 2 ^ 54) (take ahead l) in
    let e = 54 - ahead - 8 * some in
    let f = w.fits in
    let i = w.within in
    let many : length rest ≡ length bytes - next = length-drop next bytes in
    let part : take 4 rest ≡ take some rest =
    sym (take_min 4 rest) ∙ ap (λ n. take n rest) (let s : min 4 (length rest) ≡ some = omega arith in s) in
    let word_bits = bits (take some rest) in
    let long : length word_bits ≡ 8 * some = length-bits (take some rest) ∙ ap (λ n. 8 * n) (length-take-le some rest (omega arith)) in
    let word_now : word ≡ value_after 0 word_bits = word_is ∙ ap (λ k. value_after 0 (bits k)) part in
    let behind : take (8 * some) (drop ahead l) ≡ word_bits =
    ap (take (8 * some)) (drop-drop ahead (8 * next - ahead) (bits bytes) ∙ ap (λ n. drop n (bits bytes)) (let s : 8 * next - ahead + ahead ≡ 8 * next = omega arith in s) ∙ drop-bits bytes next i)
    ∙ take-bits rest some (omega arith) in
    let all : value_after (value / 2 ^ 54) (take (ahead + 8 * some) l) ≡ x * 2 ^ (8 * some) + word =
    ap (λ k. value_after (value / 2 ^ 54) k) (take-add ahead (8 * some) l)
    ∙ value_after-append (value / 2 ^ 54) (take ahead l) (take (8 * some) (drop ahead l))
    ∙ ap (λ k. value_after x k) behind
    ∙ ap (λ n. value_after n word_bits) (let s : x ≡ x + 0 = omega arith in s)
    ∙ in_front x 0 word_bits
    ∙ ap (λ (n : ℕ). x * 2 ^ n + value_after 0 word_bits) long
    ∙ ap (λ n. x * 2 ^ (8 * some) + n) (sym word_now) in
    let below : word < 2 ^ (8 * some) = below_by word word_bits (8 * some) word_now long in
    let power : 2 ^ (54 - ahead) ≡ 2 ^ (8 * some) * 2 ^ e = ap (λ (n : ℕ). 2 ^ n) (let s : 54 - ahead ≡ 8 * some + e = omega arith in s) ∙ pow-add 2 (8 * some) e in
    let sum : value + word * 2 ^ e ≡ (x * 2 ^ (8 * some) + word) * 2 ^ e =
    ap (λ n. n + word * 2 ^ e) (w.holds ∙ ap (λ (n : ℕ). x * n) power) ∙ sym (spread x (2 ^ (8 * some)) (2 ^ e) word) in
    let whole : value + word * 2 ^ e ≡ value_after (value / 2 ^ 54) (take (ahead + 8 * some) l) * 2 ^ (54 - (ahead + 8 * some)) =
    sum ∙ ap (λ n. n * 2 ^ e) (sym all)
    ∙ ap (λ (n : ℕ). value_after (value / 2 ^ 54) (take (ahead + 8 * some) l) * 2 ^ n) (let s : e ≡ 54 - (ahead + 8 * some) = omega arith in s) in
    let room : value + word * 2 ^ e < 2 ^ 64 = room_for value x word (2 ^ (8 * some)) (2 ^ e) (2 ^ (54 - ahead)) (2 ^ (10 + ahead)) fits (w.holds) power below (pow_pos e) (pow_pos (54 - ahead))
    (sym (pow-add 2 (10 + ahead) (54 - ahead)) ∙ ap (λ (n : ℕ). 2 ^ n) (let s : 10 + ahead + (54 - ahead) ≡ 64 = omega arith in s)) in
    let place : 8 * (next + some) - (ahead + 8 * some) ≡ 8 * next - ahead = omega arith in
    let enough : ahead + 8 * some ≤ length l = omega (arith, length_left bytes (8 * next - ahead)) in
    let offset : (value + word * 2 ^ e) / 2 ^ 54 ≡ value / 2 ^ 54 =
    offset_of (ahead + 8 * some) (54 - (ahead + 8 * some)) (value + word * 2 ^ e) (value / 2 ^ 54) l enough whole (omega arith) in
    record {
      amount = small (word * 2 ^ e) (omega arith);
      fits = room;
      window = record {
        within = omega arith;
        few = omega arith;
        fits = omega arith;
        are_bytes = w.are_bytes;
        holds = rw (place, offset) whole;
      };
      is = rw (place, offset) refl;
    }
  where
    below_by : (word : ℕ) (bs : List Bool) (n : ℕ) → word ≡ value_after 0 bs → length bs ≡ n → word < 2 ^ n
    below_by word bs n is long = subst (λ (m : ℕ). word < 2 ^ m) long (subst (λ v. v < 2 ^ length bs) (sym is) (value_below bs))

    room_for : (value x word p q r t : ℕ) → value < 2 ^ 64 → value ≡ x * r → r ≡ p * q → word < p → 0 < q → 0 < r → t * r ≡ 2 ^ 64 → value + word * q < 2 ^ 64
    room_for value x word p q r t fits is r_is below q_pos r_pos t_is =
        let a : (word + 1) * q ≤ p * q = mul-le (word + 1) q p q (omega arith) (omega arith) in
        let b : x * r < t * r = omega arith in
        let d : x < t = lt_of_mul-lt-mul_right r b in
        let e : (x + 1) * r ≤ t * r = mul-le (x + 1) r t r (omega arith) (omega arith) in
        omega arith

-- whether so many bits are left
pub counted : (bytes : List ℕ) (next value ahead some count : ℕ) → IsWindow bytes next value ahead → count ≤ 20 → some ≡ min (length bytes - next) 4
    → nat_le count (ahead + 8 * some) ≡ nat_le count (length (drop (8 * next - ahead) (bits bytes)))
counted bytes next value ahead some count w few is =
    let l : length (drop (8 * next - ahead) (bits bytes)) ≡ 8 * length bytes - (8 * next - ahead) = length_left bytes (8 * next - ahead) in
    let f = w.fits in
    let i = w.within in
    rw l (same_test count (ahead + 8 * some) (8 * length bytes - (8 * next - ahead)) (omega arith) (omega arith))
  where
    same_test : (n a b : ℕ) → (n ≤ a → n ≤ b) → (n ≤ b → n ≤ a) → nat_le n a ≡ nat_le n b
    same_test n a b f g = grind (arith, nat_tests, f, g)

pub ready : (bytes : List ℕ) (next value ahead count : ℕ) → IsWindow bytes next value ahead → count ≤ ahead
    → true ≡ nat_le count (length (drop (8 * next - ahead) (bits bytes)))
ready bytes next value ahead count w h =
    let l = long_enough bytes next value ahead w in
    sym (le-leb count (length (drop (8 * next - ahead) (bits bytes))) (omega arith))
