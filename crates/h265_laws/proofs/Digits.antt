-- Digits of numbers, and reading them.
use Rattle.std.proofs.Common.{◌≡◌, refl, sym, ◌∙◌, ap, subst, ℕ, zero, suc, ◌+◌, ◌*◌, ◌/◌, ◌%◌, ◌^◌, ◌<◌, ◌≤◌, List, [], ◌∷◌, ◌++◌, Bool, true, false, replicate, length, take, drop, add-one, add_comm, arith, pow-add, shr-shr}
use Rattle.std.proofs.lemmas.Bool.{agree_below, agree_below_at, and_parts, le-ltb, leb-true, ltb-true, eqb-true, eqb-false, ne_eqb}
use Rattle.std.specs.Prelude.{Some, ◌==◌, nat_lt, nat_le, ◌||◌, ◌&&◌}
use Rattle.std.specs.List.{AllByRecursion}
use Rattle.std.proofs.lemmas.Nat.{shl-shr}
use Rattle.std.proofs.Math.Nat.{suc-add, zero-add, pow-suc, div-one}
use Rattle.h265_model.specs.Engine.{read_bytes, doublings}
use Rattle.h265_model.specs.Code.{bytes_of}
use Rattle.h265_model.proofs.BitLaws.{read_u-u}
use Rattle.h265_model.specs.Bits.{digit, ◌>>=◌ as and_then, u, bits as bits_of, read_u, read_alignment, digits_up_to, all_zero}

-- the last digit
abbrev pub odd : ℕ → Bool
odd v = v % 2 == 1

pub digit-odd : (v : ℕ) → digit (odd v) ≡ v % 2
digit-odd v = go (odd v) refl
  where
    go : (b : Bool) → odd v ≡ b → digit b ≡ v % 2
    go true e = sym (eqb-true _ _ e)
    go false e = let n : (v % 2 ≡ 1 → ⊥) = eqb-false _ _ e in omega arith

-- a number without its k + 1 last digits
pub half : (v k : ℕ) → v / 2 ^ suc k ≡ v / 2 ^ k / 2
half v k = sym (shr-shr v k 1 ∙ ap (λ (n : ℕ). v / 2 ^ n) (add-one k))

-- the digits of a number, in two parts
pub u-add : (a b v : ℕ) → u (a + b) v ≡ u a (v / 2 ^ b) ++ u b v
unfolding u
u-add zero b v = rw zero-add refl
u-add (suc a) b v = rw (suc-add, u-add a b v) (ap (λ (d : ℕ). (d % 2 == 1) ∷ (u a (v / 2 ^ b) ++ u b v)) (rw (shr-shr, add_comm b a) refl))

-- the digit that stands lowest
pub u-snoc : (n v : ℕ) → u (suc n) v ≡ u n (v / 2) ++ odd v ∷ []
unfolding u
u-snoc n v =
    subst (λ (m : ℕ). u m v ≡ u n (v / 2) ++ odd v ∷ []) (add-one n)
    (u-add n 1 v ∙ ap (λ (d : ℕ). u n (v / 2) ++ (d % 2 == 1) ∷ []) (div-one v))

-- zeros after
low_zeros : (b v : ℕ) → u b (v * 2 ^ b) ≡ replicate b false
unfolding u
low_zeros zero v = refl
low_zeros (suc b) v =
    let e : v * 2 ^ suc b ≡ (v * 2) * 2 ^ b = rw (pow-suc 2 b) (omega arith) in
    let first : ((v * 2) * 2 ^ b / 2 ^ b % 2 == 1) ≡ false = ap (λ (d : ℕ). d % 2 == 1) (shl-shr (v * 2) b) ∙ ne_eqb (v * 2 % 2) 1 (λ h. omega arith) in
    ap (λ (w : ℕ). u (suc b) w) e
    ∙ (ap (λ (d : Bool). d ∷ u b ((v * 2) * 2 ^ b)) first
    ∙ ap (λ (r : List Bool). false ∷ r) (low_zeros b (v * 2)))

pub u-shifted : (a b v : ℕ) → u (a + b) (v * 2 ^ b) ≡ u a v ++ replicate b false
u-shifted a b v =
    u-add a b (v * 2 ^ b)
    ∙ (ap (λ (w : ℕ). u a w ++ u b (v * 2 ^ b)) (shl-shr v b)
    ∙ ap (λ (r : List Bool). u a v ++ r) (low_zeros b v))

-- ---- bytes

-- a byte's digits are those of the number at its place
byte_digits : (v : ℕ) → u 8 (v % 256) ≡ u 8 v
unfolding u
byte_digits v =
    let e7 : v % 256 / 128 % 2 ≡ v / 128 % 2 = omega arith in
    let e6 : v % 256 / 64 % 2 ≡ v / 64 % 2 = omega arith in
    let e5 : v % 256 / 32 % 2 ≡ v / 32 % 2 = omega arith in
    let e4 : v % 256 / 16 % 2 ≡ v / 16 % 2 = omega arith in
    let e3 : v % 256 / 8 % 2 ≡ v / 8 % 2 = omega arith in
    let e2 : v % 256 / 4 % 2 ≡ v / 4 % 2 = omega arith in
    let e1 : v % 256 / 2 % 2 ≡ v / 2 % 2 = omega arith in
    let e0 : v % 256 / 1 % 2 ≡ v / 1 % 2 = omega arith in
    rw (e7, e6, e5, e4, e3, e2, e1, e0) refl

bytes_power : (n : ℕ) → 256 ^ n ≡ 2 ^ (8 * n)
bytes_power zero = refl
bytes_power (suc n) =
    let e : 256 ^ suc n ≡ 256 ^ n * 256 = pow-suc 256 n in
    let m : 8 * suc n ≡ 8 * n + 8 = omega arith in
    e ∙ (ap (λ (p : ℕ). p * 256) (bytes_power n) ∙ (sym (pow-add 2 (8 * n) 8) ∙ ap (λ (k : ℕ). 2 ^ k) (sym m)))

-- the bits of a number's bytes
pub bits-bytes_of : (n v : ℕ) → bits_of (bytes_of n v) ≡ u (8 * n) v
unfolding u
bits-bytes_of zero v = refl
bits-bytes_of (suc n) v =
    let place : v / 256 ^ n ≡ v / 2 ^ (8 * n) = ap (λ (p : ℕ). v / p) (bytes_power n) in
    let here : u 8 (v / 256 ^ n % 256) ≡ u 8 (v / 2 ^ (8 * n)) = byte_digits (v / 256 ^ n) ∙ ap (u 8) place in
    let split : u (8 * suc n) v ≡ u 8 (v / 2 ^ (8 * n)) ++ u (8 * n) v =
    ap (λ (m : ℕ). u m v) (omega arith) ∙ u-add 8 (8 * n) v in
    ap (λ (r : List Bool). u 8 (v / 256 ^ n % 256) ++ r) (bits-bytes_of n v)
    ∙ (ap (λ (r : List Bool). r ++ u (8 * n) v) here ∙ sym split)

pub read_byte : (x : ℕ) (rest : List Bool) → x < 256 → read_u 8 (u 8 x ++ rest) ≡ Some (x, rest)
read_byte x rest h = read_u-u 8 x rest ∙ ap (λ (v : ℕ). Some (v, rest)) (omega arith)

-- reading bytes
pub read_bytes_of : (xs : List ℕ) (rest : List Bool) → AllByRecursion (λ x. x < 256) xs → read_bytes (length xs) (bits_of xs ++ rest) ≡ Some (xs, rest)
unfolding u
read_bytes_of [] rest h = refl
read_bytes_of (x ∷ xs) rest h =
    ap (λ o. and_then o (λ (first : ℕ × List Bool). and_then (read_bytes (length xs) first.1) (λ (others : List ℕ × List Bool). Some (first.0 ∷ others.0, others.1))))
    (read_byte x (bits_of xs ++ rest) h.0)
    ∙ ap (λ o. and_then o (λ (others : List ℕ × List Bool). Some (x ∷ others.0, others.1))) (read_bytes_of xs rest h.1)

zeros_all : (n : ℕ) (rest : List Bool) → all_zero (take n (replicate n false ++ rest)) ≡ true
zeros_all zero rest = refl
zeros_all (suc n) rest = zeros_all n rest

zeros_dropped : (n : ℕ) (rest : List Bool) → drop n (replicate n false ++ rest) ≡ rest
zeros_dropped zero rest = refl
zeros_dropped (suc n) rest = zeros_dropped n rest

-- a one and zeros to the byte
pub read_alignment_of : (n : ℕ) (rest : List Bool) → length (replicate n false ++ rest) % 8 ≡ n → read_alignment (true ∷ (replicate n false ++ rest)) ≡ Some rest
unfolding read_alignment
read_alignment_of n rest h = rw (h, zeros_all n rest, zeros_dropped n rest) refl

-- what a range doubles to
abbrev doubles_well : ℕ → Bool
doubles_well r = nat_lt r 2 || (nat_le 256 (r * 2 ^ doublings r) && nat_lt (r * 2 ^ doublings r) 512)

doubles_well_below : agree_below doubles_well (λ r. true) 512 ≡ true
unfolding doublings digits_up_to
doubles_well_below = refl

pub doubled_range : (r : ℕ) → 2 ≤ r → r < 512 → (256 ≤ r * 2 ^ doublings r) × (r * 2 ^ doublings r < 512)
doubled_range r low high =
    let e : doubles_well r ≡ true = agree_below_at doubles_well (λ r. true) 512 r doubles_well_below high in
    let t : nat_lt r 2 ≡ false = le-ltb r 2 low in
    let both : (nat_le 256 (r * 2 ^ doublings r) && nat_lt (r * 2 ^ doublings r) 512) ≡ true = rw t at e in
    let p : (nat_le 256 (r * 2 ^ doublings r) ≡ true) × (nat_lt (r * 2 ^ doublings r) 512 ≡ true) = and_parts _ _ both in
    (leb-true _ _ p.0, ltb-true _ _ p.1)
