-- Remaining levels, by the digits of bins that were read at once.
use Rattle.std.proofs.Common.{◌≡◌, refl, sym, ◌∙◌, ap, subst, ℕ, zero, suc, ◌+◌, ◌-◌, ◌*◌, ◌/◌, ◌%◌, ◌^◌, ◌<◌, ◌≤◌, Bool, true, false, Some, Option, length, pow-suc, pow_mono, mod-lt, arith}
use Rattle.std.proofs.Math.Nat.{div-div-eq-div-mul, lt_of_not-le, mul-le-mul_left}
use Rattle.std.proofs.lemmas.Bool.{ltb-true, ltb-false, lt-ltb, le-ltb}
use Rattle.std.proofs.lemmas.Nat.{pow-add, div-mul-add, leading_top, div-add-mod', pow_pos}
use Rattle.std.specs.Int.Count.{count_leading_zeros}
use Rattle.std.specs.Prelude.{nat_lt, if◌then◌else◌}
use Rattle.h265_model.specs.declared.Place.TheVariants.{Bypass}
use Rattle.h265_model.specs.Bits.{digit, value_after}
use Rattle.h265_model.specs.Engine.{Engine, bypass_read}
use Rattle.h265_model.specs.Binarise.{tr_from, fl_from, fl_read, remaining_read}
use Rattle.h265_model.specs.Residual.{signs_read}
use Rattle.h265_model.proofs.ByteLaws.{value_below}
use Rattle.cabac_dec.proofs.Parts.{in_front}
use Rattle.residual_read.specs.Parts.{four_from, escape_read, least_rest}
use Rattle.residual_read.proofs.FlagReads.{valued}
use Rattle.residual_read.proofs.Found.{in_two}
use Rattle.residual_read.proofs.LevelReads.{signs_are}
use Rattle.residual_read.proofs.Steps.{then_some, fl_below, short_some, long_some, escape_zero, escape_suc, escape_then, last_then, added}
use Rattle.residual_read.proofs.ValueReads.{signs_many}

same_some : {A : Type 0} (x y : A) → Some x ≡ Some y → x ≡ y
same_some x y h = cc

-- ---- the first of several bins

-- this bin, and others whose digits have this value
record First (b : Bool) (n v : ℕ) (e d : Engine) : Type 0 where
  f : Engine
  first : bypass_read e ≡ Some (b, f)
  rest : fl_from 0 n f ≡ Some (v, d)

record Behind (a n v : ℕ) (e d : Engine) : Type 0 where
  low : ℕ
  below : low < 2 ^ n
  is : v ≡ a * 2 ^ n + low
  alone : fl_from 0 n e ≡ Some (low, d)

behind : (a n v : ℕ) (e d : Engine) → fl_from a n e ≡ Some (v, d) → Behind a n v e d
behind a n v e d h =
    let t = in_two (signs_read n e) (valued a) (v, d) (sym (signs_are a n e) ∙ h) in
    let p : (value_after a t.x.0, t.x.1) ≡ (v, d) = same_some (value_after a t.x.0, t.x.1) (v, d) t.second in
    let many : length t.x.0 ≡ n = signs_many n t.x.0 e t.x.1 t.first in
    let z : a ≡ a + 0 = omega arith in
    record {
      low = value_after 0 t.x.0;
      below = subst (λ (k : ℕ). value_after 0 t.x.0 < 2 ^ k) many (value_below t.x.0);
      is = sym (ap (λ (q : ℕ × Engine). q.0) p) ∙ ap (λ k. value_after k t.x.0) z ∙ in_front a 0 t.x.0 ∙ ap (λ k. a * 2 ^ k + value_after 0 t.x.0) many;
      alone = signs_are 0 n e ∙ then_some (signs_read n e) t.x (valued 0) t.first ∙ ap (λ (f : Engine). Some (value_after 0 t.x.0, f)) (ap (λ (q : ℕ × Engine). q.1) p);
    }

by_first : (b : Bool) (n v : ℕ) (e d f : Engine) → bypass_read e ≡ Some (b, f) → fl_from (2 * 0 + digit b) n f ≡ Some (v, d) → 2 ^ n ≤ v → First true n (v - 2 ^ n) e d
by_first true n v e d f h k least =
    let t : Behind 1 n v f d = behind 1 n v f d k in
    let z : t.low ≡ v - 2 ^ n = let i = t.is in omega arith in
    record { f = f; first = h; rest = t.alone ∙ ap (λ (l : ℕ). Some (l, d)) z }
by_first false n v e d f h k least = let t : Behind 0 n v f d = behind 0 n v f d k in let i = t.is in let b = t.below in absurd (omega arith)

by_second : (b : Bool) (n v : ℕ) (e d f : Engine) → bypass_read e ≡ Some (b, f) → fl_from (2 * 0 + digit b) n f ≡ Some (v, d) → v < 2 ^ n → First false n v e d
by_second true n v e d f h k most = let t : Behind 1 n v f d = behind 1 n v f d k in let i = t.is in absurd (omega arith)
by_second false n v e d f h k most = record { f = f; first = h; rest = k }

abbrev go_on : ℕ → Bool × Engine → Option (ℕ × Engine)
go_on n found = fl_from (2 * 0 + digit found.0) n found.1

one_first : (n v : ℕ) (e d : Engine) → fl_from 0 (suc n) e ≡ Some (v, d) → 2 ^ n ≤ v → First true n (v - 2 ^ n) e d
one_first n v e d h least = let t = in_two (bypass_read e) (go_on n) (v, d) h in by_first t.x.0 n v e d t.x.1 t.first t.second least

zero_first : (n v : ℕ) (e d : Engine) → fl_from 0 (suc n) e ≡ Some (v, d) → v < 2 ^ n → First false n v e d
zero_first n v e d h most = let t = in_two (bypass_read e) (go_on n) (v, d) h in by_second t.x.0 n v e d t.x.1 t.first t.second most

-- ---- ones, a zero, and low digits

-- the value of that many ones, a zero and m digits behind
pub record IsCode (ones m low v : ℕ) : Type 0 where
  pub below : low < 2 ^ m
  pub is : v + 2 * 2 ^ m ≡ 2 * 2 ^ (ones + m) + low

power_suc : (p m : ℕ) → 2 ^ (suc p + m) ≡ 2 * 2 ^ (p + m)
power_suc p m =
    let n : suc p + m ≡ suc (p + m) = omega arith in
    let s : 2 ^ suc (p + m) ≡ 2 ^ (p + m) * 2 = pow-suc 2 (p + m) in
    ap (λ k. 2 ^ k) n ∙ s ∙ omega arith

power_top : (p m : ℕ) → 2 ^ (p + suc m) ≡ 2 * 2 ^ (p + m)
power_top p m =
    let n : p + suc m ≡ suc (p + m) = omega arith in
    let s : 2 ^ suc (p + m) ≡ 2 ^ (p + m) * 2 = pow-suc 2 (p + m) in
    ap (λ k. 2 ^ k) n ∙ s ∙ omega arith

power_more : (p m : ℕ) → 2 ^ m ≤ 2 ^ (p + m)
power_more p m = pow_mono {i = m} {j = p + m} (omega arith)

code_one : (p m low v : ℕ) → IsCode (suc p) m low v → (2 ^ (p + suc m) ≤ v) × IsCode p m low (v - 2 ^ (p + suc m))
code_one p m low v c =
    let a = power_suc p m in
    let b = power_top p m in
    let l = power_more p m in
    let i = c.is in
    (omega arith, record { below = c.below; is = omega arith })

code_zero : (m low v : ℕ) → IsCode 0 m low v → v ≡ low
code_zero m low v c =
    let z : 2 ^ (0 + m) ≡ 2 ^ m = let n : 0 + m ≡ m = omega arith in ap (λ k. 2 ^ k) n in
    let i = c.is in omega arith

read_as : (n k v : ℕ) (e d : Engine) → n ≡ k → fl_from 0 n e ≡ Some (v, d) → fl_from 0 k e ≡ Some (v, d)
read_as n k v e d h r = ap (λ i. fl_from 0 i e) (sym h) ∙ r

record Prefixed (i limit p m low : ℕ) (e d : Engine) : Type 0 where
  f : Engine
  prefix : tr_from (λ _. Bypass) i limit e ≡ Some (i + p, f)
  rest : fl_from 0 m f ≡ Some (low, d)

abbrev tr_then : ℕ → ℕ → Bool × Engine → Option (ℕ × Engine)
tr_then i left found = (if found.0 then tr_from (λ _. Bypass) (suc i) left else (λ d. Some (i, d))) found.1

-- a prefix with a zero
prefixed : (p i limit m low v : ℕ) (e d : Engine) → p < limit → IsCode p m low v → fl_from 0 (p + suc m) e ≡ Some (v, d) → Prefixed i limit p m low e d
prefixed zero i zero m low v e d h c r = absurd (omega arith)
prefixed zero i (suc limit) m low v e d h c r =
    let z = code_zero m low v c in
    let b = c.below in
    let t : First false m v e d = zero_first m v e d (read_as (0 + suc m) (suc m) v e d (omega arith) r) (omega arith) in
    let n : i ≡ i + 0 = omega arith in
    record {
      f = t.f;
      prefix = then_some (bypass_read e) (false, t.f) (tr_then i limit) t.first ∙ ap (λ (k : ℕ). Some (k, t.f)) n;
      rest = t.rest ∙ ap (λ (k : ℕ). Some (k, d)) z;
    }
prefixed (suc p) i zero m low v e d h c r = absurd (omega arith)
prefixed (suc p) i (suc limit) m low v e d h c r =
    let o = code_one p m low v c in
    let t : First true (p + suc m) (v - 2 ^ (p + suc m)) e d = one_first (p + suc m) v e d (read_as (suc p + suc m) (suc (p + suc m)) v e d (omega arith) r) o.0 in
    let q : Prefixed (suc i) limit p m low t.f d = prefixed p (suc i) limit m low (v - 2 ^ (p + suc m)) t.f d (omega arith) o.1 t.rest in
    let n : suc i + p ≡ i + suc p = omega arith in
    record {
      f = q.f;
      prefix = then_some (bypass_read e) (true, t.f) (tr_then i limit) t.first ∙ q.prefix ∙ ap (λ (k : ℕ). Some (k, q.f)) n;
      rest = q.rest;
    }

record Full (i limit p m low : ℕ) (e d : Engine) : Type 0 where
  f : Engine
  v : ℕ
  prefix : tr_from (λ _. Bypass) i limit e ≡ Some (i + limit, f)
  code : IsCode p m low v
  rest : fl_from 0 (p + suc m) f ≡ Some (v, d)

-- a prefix of ones alone
full : (limit p all i m low v : ℕ) (e d : Engine) → all ≡ limit + p → IsCode all m low v → fl_from 0 (all + suc m) e ≡ Some (v, d) → Full i limit p m low e d
full zero p all i m low v e d h c r =
    let z : all ≡ p = omega arith in
    let n : i ≡ i + 0 = omega arith in
    record {
      f = e;
      v = v;
      prefix = ap (λ (k : ℕ). Some (k, e)) n;
      code = rw (← z) c;
      rest = rw (← z) r;
    }
full (suc limit) p zero i m low v e d h c r = absurd (omega arith)
full (suc limit) p (suc all) i m low v e d h c r =
    let o = code_one all m low v c in
    let t : First true (all + suc m) (v - 2 ^ (all + suc m)) e d = one_first (all + suc m) v e d (read_as (suc all + suc m) (suc (all + suc m)) v e d (omega arith) r) o.0 in
    let q : Full (suc i) limit p m low t.f d = full limit p all (suc i) m low (v - 2 ^ (all + suc m)) t.f d (omega arith) o.1 t.rest in
    let n : suc i + limit ≡ i + suc limit = omega arith in
    record {
      f = q.f;
      v = q.v;
      prefix = then_some (bypass_read e) (true, t.f) (tr_then i limit) t.first ∙ q.prefix ∙ ap (λ (k : ℕ). Some (k, q.f)) n;
      code = q.code;
      rest = q.rest;
    }

-- an escape: what its ones add, and its low digits
escaped : (j ones sum k m low v total : ℕ) (e d : Engine) → j ≤ ones → m ≡ k + j → IsCode j m low v → fl_from 0 (j + suc m) e ≡ Some (v, d) → total + 2 ^ k ≡ sum + 2 ^ m + low
    → escape_read sum ones k e ≡ Some (total, d)
escaped zero zero sum k m low v total e d h is c r t =
    let z = code_zero m low v c in
    let b = c.below in
    let s : m ≡ k = omega arith in
    let p : 2 ^ m ≡ 2 ^ k = ap (λ i. 2 ^ i) s in
    let x : First false m v e d = zero_first m v e d (read_as (0 + suc m) (suc m) v e d (omega arith) r) (omega arith) in
    let q : sum + low ≡ total = omega arith in
    escape_zero sum k e ∙ then_some (bypass_read e) (false, x.f) (last_then sum k) x.first
    ∙ then_some (fl_read k x.f) (low, d) (added sum) (read_as m k low x.f d s (x.rest ∙ ap (λ (i : ℕ). Some (i, d)) z)) ∙ ap (λ (i : ℕ). Some (i, d)) q
escaped zero (suc ones) sum k m low v total e d h is c r t =
    let z = code_zero m low v c in
    let b = c.below in
    let s : m ≡ k = omega arith in
    let p : 2 ^ m ≡ 2 ^ k = ap (λ i. 2 ^ i) s in
    let x : First false m v e d = zero_first m v e d (read_as (0 + suc m) (suc m) v e d (omega arith) r) (omega arith) in
    let q : sum + low ≡ total = omega arith in
    escape_suc sum ones k e ∙ then_some (bypass_read e) (false, x.f) (escape_then sum ones k) x.first
    ∙ then_some (fl_read k x.f) (low, d) (added sum) (read_as m k low x.f d s (x.rest ∙ ap (λ (i : ℕ). Some (i, d)) z)) ∙ ap (λ (i : ℕ). Some (i, d)) q
escaped (suc j) zero sum k m low v total e d h is c r t = absurd (omega arith)
escaped (suc j) (suc ones) sum k m low v total e d h is c r t =
    let o = code_one j m low v c in
    let x : First true (j + suc m) (v - 2 ^ (j + suc m)) e d = one_first (j + suc m) v e d (read_as (suc j + suc m) (suc (j + suc m)) v e d (omega arith) r) o.0 in
    let p : 2 ^ suc k ≡ 2 ^ k * 2 = pow-suc 2 k in
    escape_suc sum ones k e ∙ then_some (bypass_read e) (true, x.f) (escape_then sum ones k) x.first
    ∙ escaped j ones (sum + 2 ^ k) (suc k) m low (v - 2 ^ (j + suc m)) total x.f d (omega arith) (omega arith) o.1 x.rest (omega arith)

-- ---- a remaining level

four_is : (i left : ℕ) (e : Engine) → four_from i left e ≡ tr_from (λ _. Bypass) i left e
unfolding four_from
four_is i left e = refl

pub short_code : (rice ones low v : ℕ) (e d : Engine) → ones < 4 → IsCode ones rice low v → fl_from 0 (ones + suc rice) e ≡ Some (v, d) → remaining_read rice e ≡ Some (ones * 2 ^ rice + low, d)
short_code rice ones low v e d h c r =
    let q : Prefixed 0 4 ones rice low e d = prefixed ones 0 4 rice low v e d h c r in
    let n : 0 + ones ≡ ones = omega arith in
    short_some rice ones low e q.f d (four_is 0 4 e ∙ q.prefix ∙ ap (λ (k : ℕ). Some (k, q.f)) n) h q.rest

pub long_code : (rice j low v : ℕ) (e d : Engine) → j ≤ 15 → IsCode (4 + j) (rice + 1 + j) low v → fl_from 0 (4 + j + suc (rice + 1 + j)) e ≡ Some (v, d) → remaining_read rice e ≡ Some (2 * 2 ^ rice + 2 ^ (rice + 1 + j) + low, d)
long_code rice j low v e d h c r =
    let q : Full 0 4 j (rice + 1 + j) low e d = full 4 j (4 + j) 0 (rice + 1 + j) low v e d refl c r in
    let n : 0 + 4 ≡ 4 = omega arith in
    let m : rice + 1 ≡ suc rice = omega arith in
    let p : 2 ^ (rice + 1) ≡ 2 ^ rice * 2 = ap (λ k. 2 ^ k) m ∙ pow-suc 2 rice in
    let l : 2 ^ (rice + 1) ≤ 2 ^ (rice + 1 + j) = pow_mono {i = rice + 1} {j = rice + 1 + j} (omega arith) in
    let t : 2 ^ (rice + 1 + j) + low - 2 ^ (rice + 1) + 2 ^ (rice + 1) ≡ 0 + 2 ^ (rice + 1 + j) + low = omega arith in
    let s : 4 * 2 ^ rice + (2 ^ (rice + 1 + j) + low - 2 ^ (rice + 1)) ≡ 2 * 2 ^ rice + 2 ^ (rice + 1 + j) + low = omega arith in
    long_some rice 4 (2 ^ (rice + 1 + j) + low - 2 ^ (rice + 1)) e q.f d (four_is 0 4 e ∙ q.prefix ∙ ap (λ (k : ℕ). Some (k, q.f)) n) (omega arith)
    (escaped j 15 0 (rice + 1) (rice + 1 + j) low q.v (2 ^ (rice + 1 + j) + low - 2 ^ (rice + 1)) q.f d h refl q.code q.rest t)
    ∙ ap (λ (k : ℕ). Some (k, d)) s

-- ---- a code of at most 20 bins

quotient : (digits rest p q : ℕ) → digits + rest ≡ 1048575 → 1048576 ≡ 2 * (q * p) → p ≤ rest → rest < 2 * p → 1 ≤ q → digits / p + 2 ≡ 2 * q
quotient digits rest p q e h low high some =
    let t : ℕ = 2 * q - 2 in
    let a : 2 * q - 2 + 2 ≡ 2 * q = omega arith in
    let b : (2 * q - 2 + 2) * p ≡ 2 * q * p = ap (λ k. k * p) a in
    let c : (2 * q - 2 + 2) * p ≡ (2 * q - 2) * p + 2 * p = spread (2 * q - 2) p in
    let d : 2 * q * p ≡ 2 * (q * p) = grouped q p in
    let f : (2 * q - 2) * p + (2 * p - 1 - rest) ≡ digits = omega arith in
    let g : digits / p ≡ 2 * q - 2 = ap (λ k. k / p) (sym f) ∙ div-mul-add (2 * q - 2) p (2 * p - 1 - rest) (omega arith) in
    omega arith
  where
    spread : (t p : ℕ) → (t + 2) * p ≡ t * p + 2 * p
    spread t p = omega arith

    grouped : (q p : ℕ) → 2 * q * p ≡ 2 * (q * p)
    grouped q p = omega arith

-- 20 digits whose first ones are as many as that
pub record HasOnes (digits zeros : ℕ) : Type 0 where
  pub enough : 11 ≤ zeros
  pub most : zeros - 11 ≤ 20
  pub front : zeros - 11 < 20 → digits / 2 ^ (19 - (zeros - 11)) + 2 ≡ 2 * 2 ^ (zeros - 11)

large : (n : ℕ) → 2 ^ 21 ≤ n → n ≤ 2097151 → ⊥
large n a b = let c : 2097152 ≤ n = a in omega arith

short_power : (j : ℕ) → 2 ^ j ≤ 2097151 → j < 21
short_power j h = lt_of_not-le (λ b. large (2 ^ j) (pow_mono {i = 21} {j = j} b) h)

twenty : (a b : ℕ) → a + b ≡ 20 → 1048576 ≡ 2 ^ a * 2 ^ b
twenty a b h = sum (2 ^ (a + b)) (ap (λ k. 2 ^ k) h) ∙ pow-add 2 a b
  where
    sum : (n : ℕ) → n ≡ 2 ^ 20 → 1048576 ≡ n
    sum n e = let f : n ≡ 1048576 = e in omega arith

turned : (a b : ℕ) → a * (b * 2) ≡ 2 * (a * b)
turned a b = omega arith

front_by : (digits zeros j : ℕ) → digits < 1048576 → zeros + suc j ≡ 32 → 2 ^ j ≤ 2 * (1048575 - digits) + 1 → 2 * (1048575 - digits) + 1 < 2 ^ suc j → HasOnes digits zeros
front_by digits zeros j h e a b =
    let s : j < 21 = short_power j (omega arith) in
    record {
      enough = omega arith;
      most = omega arith;
      front = λ few. go few (19 - (zeros - 11)) refl;
    }
  where
    go : zeros - 11 < 20 → (k : ℕ) → 19 - (zeros - 11) ≡ k → digits / 2 ^ k + 2 ≡ 2 * 2 ^ (zeros - 11)
    go few k is =
        let s : j < 21 = short_power j (omega arith) in
        let n : j ≡ suc k = omega arith in
        let p : 2 ^ j ≡ 2 ^ k * 2 = ap (λ i. 2 ^ i) n ∙ pow-suc 2 k in
        let q : 2 ^ suc j ≡ 2 ^ j * 2 = pow-suc 2 j in
        let w : 1048576 ≡ 2 ^ (zeros - 11) * 2 ^ j = twenty (zeros - 11) j (omega arith) in
        let v : 1048576 ≡ 2 ^ (zeros - 11) * (2 ^ k * 2) = w ∙ ap (λ i. 2 ^ (zeros - 11) * i) p in
        let u : 2 ^ (zeros - 11) * (2 ^ k * 2) ≡ 2 * (2 ^ (zeros - 11) * 2 ^ k) = turned (2 ^ (zeros - 11)) (2 ^ k) in
        quotient digits (1048575 - digits) (2 ^ k) (2 ^ (zeros - 11)) (omega arith) (v ∙ u) (omega arith) (omega arith) (pow_pos (zeros - 11))

pub front_is : (digits : ℕ) → digits < 1048576 → HasOnes digits (count_leading_zeros 32 (2 * (1048575 - digits) + 1))
front_is digits h =
    let t = leading_top 32 (2 * (1048575 - digits) + 1) (omega arith) (low (2 * (1048575 - digits) + 1) (omega arith)) in
    front_by digits (count_leading_zeros 32 (2 * (1048575 - digits) + 1)) t.0 h t.1 t.2 t.3
  where
    low : (n : ℕ) → n < 4294967296 → n < 2 ^ 32
    low n h = h

-- what the ones of a prefix say of a rest, in units of a power of 2
pub code_is : (ones m n digits code : ℕ) → n ≡ ones + 1 + m → n ≤ 20 → code ≡ digits / 2 ^ (20 - n) → digits / 2 ^ (19 - ones) + 2 ≡ 2 * 2 ^ ones → IsCode ones m (code % 2 ^ m) code
code_is ones m n digits code e few is front =
    let k : 20 - n + m ≡ 19 - ones = omega arith in
    let p : 2 ^ (20 - n) * 2 ^ m ≡ 2 ^ (19 - ones) = sym (pow-add 2 (20 - n) m) ∙ ap (λ i. 2 ^ i) k in
    let q : code / 2 ^ m ≡ digits / 2 ^ (19 - ones) = ap (λ i. i / 2 ^ m) is ∙ div-div-eq-div-mul digits (2 ^ (20 - n)) (2 ^ m) ∙ ap (λ i. digits / i) p in
    let s : code / 2 ^ m + 2 ≡ 2 * 2 ^ ones = ap (λ i. i + 2) q ∙ front in
    let t : (code / 2 ^ m + 2) * 2 ^ m ≡ 2 * 2 ^ ones * 2 ^ m = ap (λ i. i * 2 ^ m) s in
    let u : 2 * 2 ^ ones * 2 ^ m ≡ 2 * 2 ^ (ones + m) = grouped (2 ^ ones) (2 ^ m) ∙ ap (λ i. 2 * i) (sym (pow-add 2 ones m)) in
    let v : (code / 2 ^ m + 2) * 2 ^ m ≡ code / 2 ^ m * 2 ^ m + 2 * 2 ^ m = spread (code / 2 ^ m) (2 ^ m) in
    let w : code / 2 ^ m * 2 ^ m + code % 2 ^ m ≡ code = div-add-mod' code (2 ^ m) in
    record { below = mod-lt code (pow_pos m); is = omega arith }
  where
    spread : (t p : ℕ) → (t + 2) * p ≡ t * p + 2 * p
    spread t p = omega arith

    grouped : (q p : ℕ) → 2 * q * p ≡ 2 * (q * p)
    grouped q p = omega arith

short_rest : (ones : ℕ) → ones < 4 → least_rest ones ≡ ones
short_rest ones h = ap (λ (b : Bool). if b then ones else 2 + 2 ^ (ones - 3)) (lt-ltb ones 4 h)

long_rest : (ones : ℕ) → 4 ≤ ones → least_rest ones ≡ 2 + 2 ^ (ones - 3)
long_rest ones h = ap (λ (b : Bool). if b then ones else 2 + 2 ^ (ones - 3)) (le-ltb ones 4 h)

short_read : (rice ones m n digits code : ℕ) (e d : Engine) → ones < 4 → m ≡ rice → n ≡ ones + 1 + m → fl_read n e ≡ Some (code, d) → IsCode ones m (code % 2 ^ m) code
    → remaining_read rice e ≡ Some (least_rest ones * 2 ^ rice + code % 2 ^ m, d)
short_read rice ones m n digits code e d h me ne r c =
    short_code rice ones (code % 2 ^ m) code e d h (ap' me c) (read_as n (ones + suc rice) code e d (omega arith) r)
    ∙ ap (λ (k : ℕ). Some (k * 2 ^ rice + code % 2 ^ m, d)) (sym (short_rest ones h))
  where
    ap' : m ≡ rice → IsCode ones m (code % 2 ^ m) code → IsCode ones rice (code % 2 ^ m) code
    ap' e h = subst (λ (k : ℕ). IsCode ones k (code % 2 ^ m) code) e h

long_read : (rice ones m n j digits code : ℕ) (e d : Engine) → ones ≡ 4 + j → j ≤ 15 → m ≡ rice + 1 + j → n ≡ ones + 1 + m → fl_read n e ≡ Some (code, d) → IsCode ones m (code % 2 ^ m) code
    → remaining_read rice e ≡ Some (least_rest ones * 2 ^ rice + code % 2 ^ m, d)
long_read rice ones m n j digits code e d h few me ne r c =
    let k : ones - 3 ≡ 1 + j = omega arith in
    let p : 2 ^ (1 + j) * 2 ^ rice ≡ 2 ^ (rice + 1 + j) = sym (pow-add 2 (1 + j) rice) ∙ (let s : 1 + j + rice ≡ rice + 1 + j = omega arith in ap (λ i. 2 ^ i) s) in
    let q : (2 + 2 ^ (1 + j)) * 2 ^ rice ≡ 2 * 2 ^ rice + 2 ^ (1 + j) * 2 ^ rice = spread (2 ^ (1 + j)) (2 ^ rice) in
    let t : 2 * 2 ^ rice + 2 ^ (rice + 1 + j) + code % 2 ^ m ≡ (2 + 2 ^ (1 + j)) * 2 ^ rice + code % 2 ^ m = omega arith in
    long_code rice j (code % 2 ^ m) code e d few (moved h me c) (read_as n (4 + j + suc (rice + 1 + j)) code e d (omega arith) r)
    ∙ ap (λ (i : ℕ). Some (i, d)) t
    ∙ ap (λ (i : ℕ). Some ((2 + 2 ^ i) * 2 ^ rice + code % 2 ^ m, d)) (sym k)
    ∙ ap (λ (i : ℕ). Some (i * 2 ^ rice + code % 2 ^ m, d)) (sym (long_rest ones (omega arith)))
  where
    spread : (a b : ℕ) → (2 + a) * b ≡ 2 * b + a * b
    spread a b = omega arith

    moved : ones ≡ 4 + j → m ≡ rice + 1 + j → IsCode ones m (code % 2 ^ m) code → IsCode (4 + j) (rice + 1 + j) (code % 2 ^ m) code
    moved e f h = subst (λ (k : ℕ). IsCode (4 + j) k (code % 2 ^ m) code) f (subst (λ (k : ℕ). IsCode k m (code % 2 ^ m) code) e h)

-- a level whose code has few bins
pub code_read : (rice ones m n digits code : ℕ) (e d : Engine) → 2 * ones + rice ≤ 22 → m ≡ rice + (ones - 3) → n ≡ ones + 1 + m → n ≤ 20 → fl_read n e ≡ Some (code, d) → code ≡ digits / 2 ^ (20 - n)
    → digits / 2 ^ (19 - ones) + 2 ≡ 2 * 2 ^ ones → remaining_read rice e ≡ Some (least_rest ones * 2 ^ rice + code % 2 ^ m, d)
code_read rice ones m n digits code e d few me ne high r is front = go (nat_lt ones 4) refl
  where
    code_of : IsCode ones m (code % 2 ^ m) code
    code_of = code_is ones m n digits code ne high is front

    go : (b : Bool) → nat_lt ones 4 ≡ b → remaining_read rice e ≡ Some (least_rest ones * 2 ^ rice + code % 2 ^ m, d)
    go true t = let l : ones < 4 = ltb-true ones 4 t in short_read rice ones m n digits code e d l (omega arith) ne r code_of
    go false t = let l : 4 ≤ ones = ltb-false ones 4 t in long_read rice ones m n (ones - 4) digits code e d (omega arith) (omega arith) (omega arith) ne r code_of

-- sums that the code makes fit 32 bits
pub low_power : (m : ℕ) → m ≤ 12 → 1 * 2 ^ m % 4294967296 ≡ 2 ^ m
low_power m h = by (2 ^ m) (low (pow_mono {i = m} {j = 12} h))
  where
    low : 2 ^ m ≤ 2 ^ 12 → 2 ^ m ≤ 4096
    low h = h

    by : (n : ℕ) → n ≤ 4096 → 1 * n % 4294967296 ≡ n
    by n h = omega arith

times_sixteen : (a p : ℕ) → a ≤ 258 → p ≤ 16 → a * p ≤ 4128
times_sixteen a p h k =
    let x : a * p ≤ a * 16 = mul-le-mul_left a k in
    omega arith

pub least_fits : (least rice : ℕ) → least ≤ 258 → rice ≤ 4 → least * 2 ^ rice % 4294967296 ≡ least * 2 ^ rice
least_fits least rice h k = by (least * 2 ^ rice) (times_sixteen least (2 ^ rice) h (low (pow_mono {i = rice} {j = 4} k)))
  where
    low : 2 ^ rice ≤ 2 ^ 4 → 2 ^ rice ≤ 16
    low h = h

    by : (n : ℕ) → n ≤ 4128 → n % 4294967296 ≡ n
    by n h = omega arith

pub twenty_low : (digits : ℕ) (d e : Engine) → fl_read 20 e ≡ Some (digits, d) → digits < 1048576
twenty_low digits d e h = by (fl_below 20 digits e d h)
  where
    by : digits < 2 ^ 20 → digits < 1048576
    by h = h
