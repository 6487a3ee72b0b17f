-- What the steps of a coder do to what its state shows.
use Rattle.std.proofs.Common.{◌≡◌, refl, sym, ◌∙◌, ap, ℕ, ◌+◌, ◌*◌, ◌-◌, ◌/◌, ◌%◌, ◌^◌, ◌<◌, ◌≤◌, Bool, true, false, List, [], ◌∷◌, length, get_or, mod-eq_of_lt, ne_eqb, arith}
use Rattle.std.proofs.lemmas.Nat.{pow-add, mul-le}
use Rattle.std.proofs.Math.Nat.{pow-le-pow_right}
use Rattle.std.specs.Int.Count.{count_leading_zeros}
use Rattle.std.specs.Prelude.{Ok, Err, Result, OnOk, ◌==◌}
use Rattle.std.specs.Bool.{beq}
use Rattle.h265_model.specs.declared.Place.TheVariants.{Context, Bypass, Terminate}
use Rattle.h265_model.specs.declared.Item.TheVariants as items
use Rattle.h265_model.specs.declared.memory.NoMemory.{NoMemory}
use Rattle.h265_model.specs.Engine.{doublings}
use Rattle.h265_model.specs.Bits.{digit, u, value, bits}
use Rattle.h265_model.specs.Contexts.{lps_range, mps, step}
use Rattle.h265_model.specs.Code.{Coding, put_bin, Plain}
use Rattle.h265_model.proofs.Doublings.{Doubled, doubled}
use Rattle.cabac_enc.specs.State.{State, Shows, Shifts, Scales, Follows, phase_of}
use Rattle.cabac_enc.proofs.Digits.{grown}

power_small : (d n : ℕ) → d ≤ n → 2 ^ d ≤ 2 ^ n
power_small d n h = let positive : 0 < 2 = omega arith in pow-le-pow_right positive h

-- the numbers as the code computes them
pub record Renormal (low range k : ℕ) : Type 0 where
  pub is : k ≡ doublings range
  pub few : k ≤ 7
  pub number : low * 2 ^ k % 2 ^ 32 ≡ low * 2 ^ k
  pub share : range * 2 ^ k % 2 ^ 32 ≡ range * 2 ^ k
  pub fits : low * 2 ^ k % 2 ^ 32 < 1024 * 2 ^ k
  pub least : 256 ≤ range * 2 ^ k % 2 ^ 32
  pub most : range * 2 ^ k % 2 ^ 32 ≤ 510

strict : (low p : ℕ) → low < 1024 → 0 < p → low * p < 1024 * p
strict low p h k = let m : (low + 1) * p ≤ 1024 * p = mul-le (low + 1) p 1024 p (omega arith) (omega arith) in omega arith

renormal_at : (low range k : ℕ) → low < 1024 → range < 510 → Doubled range → k ≡ doublings range → Renormal low range k
renormal_at low range k small less d is =
    let few : k ≤ 6 = rw is d.few in
    let p = power_small k 6 few in
    let one = power_small 0 k (omega arith) in
    let s = strict low (2 ^ k) small one in
    let least : 256 ≤ range * 2 ^ k = rw is d.least in
    let most : range * 2 ^ k ≤ 510 = rw is d.most in
    let a : low * 2 ^ k % 2 ^ 32 ≡ low * 2 ^ k = mod-eq_of_lt (omega arith) in
    let b : range * 2 ^ k % 2 ^ 32 ≡ range * 2 ^ k = mod-eq_of_lt (omega arith) in
    record { is = is; few = omega arith; number = a; share = b; fits = rw a s; least = rw b least; most = rw b most }

pub renormal : (low range : ℕ) → low < 1024 → 4 ≤ range → range < 510 → Renormal low range (count_leading_zeros 32 range - 23)
renormal low range small some less = let d = doubled range some (omega arith) in renormal_at low range (count_leading_zeros 32 range - 23) small less d d.is

-- ---- more digits

whole_power : (n : ℕ) → 2 ^ (n + 9) ≡ 2 ^ n * 512
whole_power n = pow-add 2 n 9

below : (n p r size : ℕ) → n * 512 + r + size ≤ p * 512 → 0 < size → n < p
below n p r size h k = omega arith

in_parts : (h p number : ℕ) → (h * p + number / 512) * 512 + number % 512 ≡ h * p * 512 + number
in_parts h p number = omega arith

pub shifted : (old : State) (list : List Bool) (number size count : ℕ) → 256 ≤ size → list ≡ u (length old.bits + count) (value old.bits * 2 ^ count + number / 512) →
    Shifts number size count old (record { bits = list; low = number % 512; range = size; after_samples = false; contexts = old.contexts })
shifted old list number size count some is = record {
  shows = λ c high low h e room. (
      let top : ℕ = number / 512 in
      let next : ℕ = high * 2 ^ count + top in
      let sum : next * 512 + number % 512 ≡ low = in_parts high (2 ^ count) number ∙ sym e in
      let power = whole_power (c.count + count) in
      let fits : next < 2 ^ (c.count + count) = below next (2 ^ (c.count + count)) (number % 512) size (omega arith) (omega arith) in
      record {
        high = next;
        holds = record {
          bits = is ∙ ap (λ l. u (length l + count) (value l * 2 ^ count + top)) h.bits ∙ grown (bits c.done) high c.count count top h.below fits;
          bytes = h.bytes;
          below = fits;
          contexts = h.contexts;
        };
        low = sum;
        range = refl;
        room = room;
      });
  range = refl;
  phase = refl;
  contexts = refl;
}

spread : (high low p : ℕ) → (high * 512 + low) * p ≡ high * p * 512 + low * p
spread high low p = omega arith

gathered : (n size p q : ℕ) → (n + size) * p ≤ q → n * p + size * p ≤ q
gathered n size p q h = omega arith

wider : (n size k count : ℕ) → n + size ≤ 2 ^ (count + 9) → n * 2 ^ k + size * 2 ^ k ≤ 2 ^ (count + k + 9)
wider n size k count h =
    let e : 2 ^ (count + k + 9) ≡ 2 ^ (count + 9) * 2 ^ k = ap (λ m. 2 ^ m) (omega arith) ∙ pow-add 2 (count + 9) k in
    rw e (gathered n size (2 ^ k) (2 ^ (count + 9) * 2 ^ k) (mul-le (n + size) (2 ^ k) (2 ^ (count + 9)) (2 ^ k) h (omega arith)))

scales : (old new : State) (low size k : ℕ) → k ≡ doublings size → 256 ≤ size * 2 ^ k → Shifts (low * 2 ^ k) (size * 2 ^ k) k old new → Scales low size old new
scales old new low size k is least a = record {
  shows = λ c high h room. rw (← is) (a.shows c high ((high * 512 + low) * 2 ^ k) h (spread high low (2 ^ k)) (wider (high * 512 + low) size k c.count room));
  some = (let r = a.range in omega arith);
  phase = a.phase;
  contexts = a.contexts;
}

pub renormalised : (result : Result (Unit {0}) NoMemory) (old new : State) (low size k : ℕ) → Renormal low size k →
    OnOk result (Shifts (low * 2 ^ k % 2 ^ 32) (size * 2 ^ k % 2 ^ 32) k old new) → OnOk result (Scales low size old new)
renormalised (Err e) old new low size k n a = tt
renormalised (Ok x) old new low size k n a = scales old new low size k n.is (let l = n.least in rw n.share at l) (rw (n.number, n.share) at a)

-- ---- one bin

plain_of : (s : State) → 0 < s.range → s.after_samples ≡ false → phase_of s ≡ Plain
plain_of s h f = let t : s.range == 0 ≡ false = ne_eqb s.range 0 (λ e. omega arith) in rw (t, f) refl

with_contexts : (t : State) (c : Coding) (list other : List ℕ) → list ≡ other → Shows t c → Shows (record t { contexts = list }) (record c { contexts = other })
with_contexts t c list other e h = record {
  high = h.high;
  holds = record { bits = h.holds.bits; bytes = h.holds.bytes; below = h.holds.below; contexts = e };
  low = h.low;
  range = h.range;
  room = h.room;
}

-- 9.3.5.6: a terminating bin 0
pub went_on : (result : Result (Unit {0}) NoMemory) (s t : State) → 2 ≤ s.range → OnOk result (Scales s.low (s.range - 2) s t) → OnOk result (Follows (items.Bin (record { value = false; place = Terminate }) ∷ []) s t)
unfolding put_bin
went_on (Err e) s t some a = tt
went_on (Ok x) s t some a = record {
  shows = λ c h. (let e : s.range ≡ c.range = h.range in
      let l = h.low in
      let r = h.room in
      rw (← e, ← l) (a.shows c h.high h.holds (omega arith)));
  some = a.some;
  phase = plain_of t a.some a.phase;
}

-- 9.3.5.3: the more probable value
pub likely : (s t : State) (n : ℕ) (bin : Bool) (small : ℕ) (after : List ℕ) → small ≡ lps_range (get_or s.contexts n 0) (s.range / 64 % 4) → beq bin (mps (get_or s.contexts n 0)) ≡ true →
    Scales s.low (s.range - small) s t → after ≡ step t.contexts n bin →
    Follows (items.Bin (record { value = bin; place = Context n }) ∷ []) s (record t { contexts = after })
unfolding put_bin
likely s t n bin small after is_small is_likely a is_after = record {
  shows = λ c h. (let e : s.range ≡ c.range = h.range in
      let d : s.contexts ≡ c.contexts = h.holds.contexts in
      let l = h.low in
      let r = h.room in
      let f : after ≡ step s.contexts n bin = is_after ∙ ap (λ x. step x n bin) a.contexts in
      rw (← e, ← d, is_likely, ← is_small, ← l) (with_contexts t _ after (step s.contexts n bin) f (a.shows c h.high h.holds (omega arith))));
  some = a.some;
  phase = plain_of (record t { contexts = after }) a.some a.phase;
}

-- the other value has the upper share
pub unlikely : (s t : State) (n : ℕ) (bin : Bool) (small : ℕ) (after : List ℕ) → small ≤ s.range → small ≡ lps_range (get_or s.contexts n 0) (s.range / 64 % 4) → beq bin (mps (get_or s.contexts n 0)) ≡ false →
    Scales (s.low + (s.range - small)) small s t → after ≡ step t.contexts n bin →
    Follows (items.Bin (record { value = bin; place = Context n }) ∷ []) s (record t { contexts = after })
unfolding put_bin
unlikely s t n bin small after inside is_small is_not a is_after = record {
  shows = λ c h. (let e : s.range ≡ c.range = h.range in
      let d : s.contexts ≡ c.contexts = h.holds.contexts in
      let l = h.low in
      let r = h.room in
      let large : ℕ = s.range - small in
      let sum : h.high * 512 + (s.low + large) ≡ c.low + large = omega arith in
      let f : after ≡ step s.contexts n bin = is_after ∙ ap (λ x. step x n bin) a.contexts in
      rw (← e, ← d, is_not, ← is_small, ← sum) (with_contexts t _ after (step s.contexts n bin) f (a.shows c h.high h.holds (omega arith))));
  some = a.some;
  phase = plain_of (record t { contexts = after }) a.some a.phase;
}

doubled_sum : (h l d r n : ℕ) → h * 512 + l ≡ n → 2 * n + d * r ≡ h * 2 * 512 + (2 * l + d * r)
doubled_sum h l d r n e = rw (sym e) (omega arith)

digit_part : (b : Bool) (r : ℕ) → digit b * r ≤ r
digit_part true r = omega arith
digit_part false r = omega arith

doubled_room : (n d r p q : ℕ) → d ≤ r → n + r ≤ p → q ≡ p * 2 → 2 * n + d + r ≤ q
doubled_room n d r p q h k e = omega arith

-- 9.3.5.5
pub bypassed : (result : Result (Unit {0}) NoMemory) (s t : State) (bin : Bool) → 256 ≤ s.range → OnOk result (Shifts (2 * s.low + digit bin * s.range) s.range 1 s t) →
    OnOk result (Follows (items.Bin (record { value = bin; place = Bypass }) ∷ []) s t)
unfolding put_bin
bypassed (Err e) s t bin some a = tt
bypassed (Ok x) s t bin some a =
    let more : 0 < t.range = (let r = a.range in omega arith) in
    record {
      shows = λ c h. (let e : s.range ≡ c.range = h.range in
          let power : 2 ^ (c.count + 1 + 9) ≡ 2 ^ (c.count + 9) * 2 = ap (λ n. 2 ^ n) (omega arith) ∙ pow-add 2 (c.count + 9) 1 in
          let room : c.low + s.range ≤ 2 ^ (c.count + 9) = rw e h.room in
          rw (← e) (a.shows c h.high (2 * c.low + digit bin * s.range) h.holds (doubled_sum h.high s.low (digit bin) s.range c.low h.low)
          (doubled_room c.low (digit bin * s.range) s.range (2 ^ (c.count + 9)) _ (digit_part bin s.range) room power)));
      some = more;
      phase = plain_of t more a.phase;
    }
