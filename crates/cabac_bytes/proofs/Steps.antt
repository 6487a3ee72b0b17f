-- What the steps of a coder do to what its state shows.
use Rattle.std.proofs.Common.{◌≡◌, refl, sym, ◌∙◌, ap, ℕ, zero, suc, ◌+◌, ◌*◌, ◌-◌, ◌/◌, ◌%◌, ◌^◌, ◌<◌, ◌≤◌, Bool, true, false, List, [], ◌∷◌, ◌++◌, get_or, mod-eq_of_lt, ne_eqb, add-zero, pow-suc, mul_comm, mod-lt, arith}
use Rattle.std.proofs.lemmas.Nat.{pow_pos, pow-add, mul-le}
use Rattle.std.proofs.lemmas.Bool.{agree_below, agree_below_at, le-ltb, leb-true, eqb-true}
use Rattle.std.proofs.Math.Nat.{pow-le-pow_right, mod-one}
use Rattle.std.proofs.Math.Bool.{and-false}
use Rattle.std.specs.Int.Bits.{bit_xor}
use Rattle.std.specs.Prelude.{Option, Ok, Err, Result, OnOk, if◌then◌else◌, ◌==◌, ◌&&◌, ◌||◌, nat_lt, nat_le}
use Rattle.std.specs.Bool.{beq}
use Rattle.h265_model.specs.declared.Place.TheVariants.{Context, Terminate}
use Rattle.h265_model.specs.declared.Item.TheVariants as items
use Rattle.h265_model.specs.declared.memory.NoMemory.{NoMemory}
use Rattle.h265_model.specs.Engine.{doublings}
use Rattle.h265_model.specs.Bits.{digits_up_to, digit, u}
use Rattle.h265_model.specs.Binarise.{bypass_bins, fl}
use Rattle.std.proofs.Math.Arith.{mod-mul}
use Rattle.h265_model.specs.Contexts.{lps_range, mps, step}
use Rattle.h265_model.specs.Code.{Coding, coding, scaled, put_bin, Plain}
use Rattle.cabac_bytes.specs.Pending.{number, kept, limit}
use Rattle.h265_model.proofs.Doublings.{Doubled, doubled}
use Rattle.cabac_bytes.specs.State.{State, Shows, Advances, Scales, Follows, is_fresh, is_none, phase_of}
use Rattle.cabac_bytes.proofs.Shown.{Limits, limits, once, twice, not_fresh}

-- ---- how often a range doubles

all_double_once : agree_below (λ r. nat_lt r 128 || bit_xor (r / 256) 1 == doublings r) (λ r. true) 510 ≡ true
unfolding doublings digits_up_to
all_double_once = refl

pub once_at_most : (r : ℕ) → 128 ≤ r → r < 510 → bit_xor (r / 256) 1 ≡ doublings r
once_at_most r low high =
    let e : (nat_lt r 128 || bit_xor (r / 256) 1 == doublings r) ≡ true = agree_below_at (λ r. nat_lt r 128 || bit_xor (r / 256) 1 == doublings r) (λ r. true) 510 r all_double_once high in
    let t : nat_lt r 128 ≡ false = le-ltb r 128 low in
    eqb-true _ _ (rw t at e)

-- at least 128 of the range is left to the more probable value
abbrev leaves_enough : ℕ → Bool
leaves_enough n = nat_le (lps_range (n / 4) (n % 4)) (128 + 48 * (n % 4))

all_leave_enough : agree_below leaves_enough (λ n. true) 504 ≡ true
unfolding lps_range
all_leave_enough = refl

share_below : (byte q : ℕ) → byte < 126 → q < 4 → lps_range byte q ≤ 128 + 48 * q
share_below byte q h k =
    let a : (4 * byte + q) / 4 ≡ byte = omega arith in
    let b : (4 * byte + q) % 4 ≡ q = omega arith in
    let e : leaves_enough (4 * byte + q) ≡ true = agree_below_at leaves_enough (λ n. true) 504 (4 * byte + q) all_leave_enough (omega arith) in
    let f : lps_range ((4 * byte + q) / 4) ((4 * byte + q) % 4) ≤ 128 + 48 * ((4 * byte + q) % 4) = leb-true _ _ e in
    rw (a, b) at f

pub half_left : (byte range small : ℕ) → byte < 126 → 256 ≤ range → range ≤ 510 → small ≡ lps_range byte (range / 64 % 4) → 128 ≤ range - small
half_left byte range small h low high is = let m = share_below byte (range / 64 % 4) h (omega arith) in omega arith

-- ---- a number of a state doubled

limit_small : (held : Option ℕ) → Limits held → limit held ≤ 2
limit_small held (once e) = omega arith
limit_small held (twice e) = omega arith

by_limits : (held : Option ℕ) (w n : ℕ) → Limits held → 2 ^ w ≤ 2 ^ 41 → n ≤ limit held * 2 ^ w → n ≤ 2 ^ 42
by_limits held w n (once e) p h = let f : n ≤ 1 * 2 ^ w = rw e at h in omega arith
by_limits held w n (twice e) p h = let f : n ≤ 2 * 2 ^ w = rw e at h in omega arith

pub low_small : (held : Option ℕ) (w low range : ℕ) → w ≤ 41 → low + range ≤ limit held * 2 ^ w → low + range ≤ 2 ^ 42
low_small held w low range h room =
    let positive : 0 < 2 = omega arith in
    let p : 2 ^ w ≤ 2 ^ 41 = pow-le-pow_right positive h in
    by_limits held w (low + range) (limits held) p room

pub power_small : (d n : ℕ) → d ≤ n → 2 ^ d ≤ 2 ^ n
power_small d n h = let positive : 0 < 2 = omega arith in pow-le-pow_right positive h

regroup : (l p q : ℕ) → (l * p) * q ≡ l * (p * q)
regroup l p q = omega arith

pub scaled_room : (l w d low range : ℕ) → low + range ≤ l * 2 ^ w → low * 2 ^ d + range * 2 ^ d ≤ l * 2 ^ (w + d)
scaled_room l w d low range room =
    let e : 2 ^ (w + d) ≡ 2 ^ w * 2 ^ d = pow-add 2 w d in
    let m : (low + range) * 2 ^ d ≤ (l * 2 ^ w) * 2 ^ d = mul-le (low + range) (2 ^ d) (l * 2 ^ w) (2 ^ d) room (omega arith) in
    rw e (omega arith)

-- ---- what is shown after a change of the number

spread : (n w low k add p : ℕ) → p ≡ w * k → n * p + (low * k + add) ≡ (n * w + low) * k + add
spread n w low k add p e = rw e (omega arith)

pub moved : (s : State) (c : Coding) (k add range l w low count : ℕ) → l ≡ s.low * 2 ^ k + add → w ≡ s.width + k → low ≡ c.low * 2 ^ k + add → count ≡ c.count + k →
    Shows s c → Shows (record s { low = l; range = range; width = w }) (record c { low = low; range = range; count = count })
moved s c k add range l w low count is_low is_width is_number is_count h =
    let D : List ℕ = h.settled ++ kept s.pending.held s.pending.run in
    let power : 2 ^ w ≡ 2 ^ s.width * 2 ^ k = ap (λ n. 2 ^ n) is_width ∙ pow-add 2 s.width k in
    record {
      settled = h.settled;
      out = h.out;
      bytes = h.bytes;
      low = rw (is_low, is_number) (spread (number D) (2 ^ s.width) s.low (2 ^ k) add (2 ^ w) power ∙ ap (λ n. n * 2 ^ k + add) h.low);
      count = let e = h.count in omega arith;
      range = refl;
      contexts = h.contexts;
    }

pub plain_of : (s : State) → 0 < s.range → is_fresh s ≡ false → phase_of s ≡ Plain
plain_of s h f = let t : s.range == 0 ≡ false = ne_eqb s.range 0 (λ e. omega arith) in rw (t, f) refl

unfresh : (range width k : ℕ) (none : Bool) → range < 510 → 9 ≤ width → (range * 2 ^ k == 510 && (width + k == 9 && none)) ≡ false
unfresh range width zero none h f = let e : range * 2 ^ 0 ≡ range = omega arith in let t : range == 510 ≡ false = ne_eqb range 510 (λ e. omega arith) in rw (e, t) refl
unfresh range width (suc k) none h f = let t : width + suc k == 9 ≡ false = ne_eqb (width + suc k) 9 (λ e. omega arith) in rw t (and-false (range * 2 ^ suc k == 510))

pub scales : (s new : State) (l r w : ℕ) → l ≡ s.low * 2 ^ doublings s.range → r ≡ s.range * 2 ^ doublings s.range → w ≡ s.width + doublings s.range → 256 ≤ r → s.range < 510 → 9 ≤ s.width →
    Advances (record s { low = l; range = r; width = w }) new → Scales s new
scales s new l r w is_low is_range is_width least less from a =
    let k : ℕ = doublings s.range in
    record {
      shows = λ c h. a.shows (scaled c c.low c.range) (
          let e : s.range ≡ c.range = h.range in
          let m = moved s c k 0 r l w (c.low * 2 ^ k) (c.count + k) (is_low ∙ sym (add-zero (s.low * 2 ^ k))) is_width (sym (add-zero (c.low * 2 ^ k))) refl h in
          rw (← e, ← is_range) m);
      contexts = a.contexts;
      some = let f = a.range in omega arith;
      fresh = a.fresh ∙ rw (is_range, is_width) (unfresh s.range s.width k (is_none s.pending.held) less from);
    }

-- ---- the numbers as the code computes them

pub record Renormal (held : Option ℕ) (w low range k : ℕ) : Type 0 where
  pub is : k ≡ doublings range
  pub few : doublings range ≤ 6
  pub number : low * 2 ^ k % 2 ^ 64 ≡ low * 2 ^ doublings range
  pub share : range * 2 ^ k % 2 ^ 32 ≡ range * 2 ^ doublings range
  pub least : 256 ≤ range * 2 ^ k % 2 ^ 32
  pub most : range * 2 ^ k % 2 ^ 32 ≤ 510
  pub room : low * 2 ^ k % 2 ^ 64 + range * 2 ^ k % 2 ^ 32 ≤ limit held * 2 ^ (w + k)

renormal_at : (held : Option ℕ) (w low range k : ℕ) → w ≤ 41 → range < 510 → low + range ≤ limit held * 2 ^ w → Doubled range → k ≡ doublings range → Renormal held w low range k
renormal_at held w low range k wide less room d is =
    let few = d.few in
    let least = d.least in
    let most = d.most in
    let small = low_small held w low range wide room in
    let p = power_small (doublings range) 6 few in
    let m : low * 2 ^ doublings range ≤ 2 ^ 42 * 2 ^ 6 = mul-le low (2 ^ doublings range) (2 ^ 42) (2 ^ 6) (omega arith) p in
    let a : low * 2 ^ doublings range % 2 ^ 64 ≡ low * 2 ^ doublings range = mod-eq_of_lt (omega arith) in
    let b : range * 2 ^ doublings range % 2 ^ 32 ≡ range * 2 ^ doublings range = mod-eq_of_lt (omega arith) in
    let f = scaled_room (limit held) w (doublings range) low range room in
    rw is (record { is = refl; few = few; number = a; share = b; least = omega arith; most = omega arith; room = omega arith })

pub renormal : (held : Option ℕ) (w low range k : ℕ) → w ≤ 41 → 4 ≤ range → range < 510 → k ≡ doublings range → low + range ≤ limit held * 2 ^ w → Renormal held w low range k
renormal held w low range k wide some less is room = renormal_at held w low range k wide less room (doubled range some (omega arith)) is

pub renormalised : (result : Result (Unit {0}) NoMemory) (s new : State) (k : ℕ) → Renormal s.pending.held s.width s.low s.range k → s.range < 510 → 9 ≤ s.width →
    OnOk result (Advances (record s { low = s.low * 2 ^ k % 2 ^ 64; range = s.range * 2 ^ k % 2 ^ 32; width = s.width + k }) new) → OnOk result (Scales s new)
renormalised (Err e) s new k n less from a = tt
renormalised (Ok x) s new k n less from a =
    scales s new (s.low * 2 ^ k % 2 ^ 64) (s.range * 2 ^ k % 2 ^ 32) (s.width + k) n.number n.share (ap (λ k. s.width + k) n.is) n.least less from a

-- ---- one bin

-- 9.3.5.6: a terminating bin 0
pub went_on : (s new : State) → Scales (record s { range = s.range - 2 }) new → Follows (items.Bin (record { value = false; place = Terminate }) ∷ []) s new
unfolding put_bin
went_on s new a = record {
  shows = λ c h. (let e : s.range ≡ c.range = h.range in
      let m : Shows (record s { range = s.range - 2 }) (record c { range = c.range - 2 }) =
      record { settled = h.settled; out = h.out; bytes = h.bytes; low = h.low; count = h.count; range = ap (λ r. r - 2) e; contexts = h.contexts } in
      a.shows (record c { range = c.range - 2 }) m);
  some = a.some;
  phase = plain_of new a.some a.fresh;
}

pub ok_went_on : (result : Result (Unit {0}) NoMemory) (s new : State) → OnOk result (Scales (record s { range = s.range - 2 }) new) → OnOk result (Follows (items.Bin (record { value = false; place = Terminate }) ∷ []) s new)
ok_went_on (Err e) s new a = tt
ok_went_on (Ok x) s new a = went_on s new a

with_contexts : (t : State) (c : Coding) (list other : List ℕ) → list ≡ other → Shows t c → Shows (record t { contexts = list }) (record c { contexts = other })
with_contexts t c list other e h = record { settled = h.settled; out = h.out; bytes = h.bytes; low = h.low; count = h.count; range = h.range; contexts = e }

-- 9.3.5.3: the more probable value
pub likely : (s t : State) (n : ℕ) (value : Bool) (small : ℕ) (after : List ℕ) → small ≡ lps_range (get_or s.contexts n 0) (s.range / 64 % 4) → beq value (mps (get_or s.contexts n 0)) ≡ true →
    Scales (record s { range = s.range - small }) t → after ≡ step t.contexts n value →
    Follows (items.Bin (record { value = value; place = Context n }) ∷ []) s (record t { contexts = after })
unfolding put_bin
likely s t n value small after is_small is_likely a is_after = record {
  shows = λ c h. (let e : s.range ≡ c.range = h.range in
      let d : s.contexts ≡ c.contexts = h.contexts in
      let f : after ≡ step s.contexts n value = is_after ∙ ap (λ l. step l n value) a.contexts in
      let m : Shows (record s { range = s.range - small }) (record c { range = s.range - small }) =
      record { settled = h.settled; out = h.out; bytes = h.bytes; low = h.low; count = h.count; range = refl; contexts = h.contexts } in
      rw (← e, ← d, is_likely, ← is_small) (with_contexts t _ after (step s.contexts n value) f (a.shows (record c { range = s.range - small }) m)));
  some = a.some;
  phase = plain_of (record t { contexts = after }) a.some a.fresh;
}

-- the other value has the upper share
pub unlikely : (s t : State) (n : ℕ) (value : Bool) (small : ℕ) (after : List ℕ) → small ≡ lps_range (get_or s.contexts n 0) (s.range / 64 % 4) → beq value (mps (get_or s.contexts n 0)) ≡ false →
    Scales (record s { low = s.low + (s.range - small); range = small }) t → after ≡ step t.contexts n value →
    Follows (items.Bin (record { value = value; place = Context n }) ∷ []) s (record t { contexts = after })
unfolding put_bin
unlikely s t n value small after is_small is_not a is_after = record {
  shows = λ c h. (let e : s.range ≡ c.range = h.range in
      let d : s.contexts ≡ c.contexts = h.contexts in
      let large : ℕ = s.range - small in
      let f : after ≡ step s.contexts n value = is_after ∙ ap (λ l. step l n value) a.contexts in
      let m : Shows (record s { low = s.low + large; range = small }) (record c { low = c.low + large; range = small }) =
      moved s c 0 large small (s.low + large) s.width (c.low + large) c.count (omega arith) (omega arith) (omega arith) (omega arith) h in
      rw (← e, ← d, is_not, ← is_small) (with_contexts t _ after (step s.contexts n value) f (a.shows (record c { low = c.low + large; range = small }) m)));
  some = a.some;
  phase = plain_of (record t { contexts = after }) a.some a.fresh;
}

-- either value
pub stepped : (s t : State) (n : ℕ) (value more : Bool) (small low range : ℕ) (after : List ℕ) → small ≡ lps_range (get_or s.contexts n 0) (s.range / 64 % 4) → beq value (mps (get_or s.contexts n 0)) ≡ more →
    low ≡ (if more then 0 else s.range - small) → range ≡ (if more then s.range - small else small) →
    Scales (record s { low = s.low + low; range = range }) t → after ≡ step t.contexts n value →
    Follows (items.Bin (record { value = value; place = Context n }) ∷ []) s (record t { contexts = after })
stepped s t n value true small low range after is_small is_more is_low is_range a is_after =
    let none : s.low + 0 ≡ s.low = add-zero s.low in
    let b : Scales (record s { low = s.low + 0; range = s.range - small }) t = rw (is_low, is_range) at a in
    likely s t n value small after is_small is_more (rw none at b) is_after
stepped s t n value false small low range after is_small is_more is_low is_range a is_after =
    unlikely s t n value small after is_small is_more (rw (is_low, is_range) at a) is_after

-- ---- bins without contexts

digit_of : (r : ℕ) → r < 2 → digit (r == 1) ≡ r
digit_of zero h = refl
digit_of (suc zero) h = refl
digit_of (suc (suc r)) h = absurd (omega arith)

two_digits : (n v : ℕ) → v % 2 ^ suc n ≡ (v / 2 ^ n % 2) * 2 ^ n + v % 2 ^ n
two_digits n v = ap (λ m. v % m) (pow-suc 2 n ∙ mul_comm (2 ^ n) 2) ∙ mod-mul v (omega arith) (pow_pos n)

gathered : (low d range p q r m : ℕ) → q ≡ p * 2 → m ≡ d * p + r → (2 * low + d * range) * p + r * range ≡ low * q + m * range
gathered low d range p q r m e f = rw (e, f) (omega arith)

same_coding : (c : Coding) (low low' count count' : ℕ) → low ≡ low' → count ≡ count' →
    (let a : Coding = record c { low = low; count = count } in a) ≡ (let b : Coding = record c { low = low'; count = count' } in b)
same_coding c low low' count count' e f = rw (e, f) refl

pub bypass_code : (n v : ℕ) (c : Coding) → coding (bypass_bins (fl n v)) c ≡ record c { low = c.low * 2 ^ n + v % 2 ^ n * c.range; count = c.count + n }
unfolding put_bin u
bypass_code zero v c = same_coding c c.low (c.low * 1 + v % 1 * c.range) c.count (c.count + 0) (rw (mod-one v) (omega arith)) (omega arith)
bypass_code (suc n) v c =
    let d : ℕ = v / 2 ^ n % 2 in
    let is : digit (d == 1) ≡ d = digit_of d (mod-lt (v / 2 ^ n) (omega arith)) in
    let next : Coding = record c { low = 2 * c.low + digit (d == 1) * c.range; count = c.count + 1 } in
    bypass_code n v next
    ∙ same_coding c ((2 * c.low + digit (d == 1) * c.range) * 2 ^ n + v % 2 ^ n * c.range) (c.low * 2 ^ suc n + v % 2 ^ suc n * c.range) (c.count + 1 + n) (c.count + suc n)
    (rw is (gathered c.low d c.range (2 ^ n) (2 ^ suc n) (v % 2 ^ n) (v % 2 ^ suc n) (pow-suc 2 n) (two_digits n v))) (omega arith)

pub record Few (held : Option ℕ) (w low range value n : ℕ) : Type 0 where
  pub number : low * 2 ^ n % 2 ^ 64 ≡ low * 2 ^ n
  pub fits : low * 2 ^ n % 2 ^ 64 + value * range < 2 ^ 64
  pub room : low * 2 ^ n % 2 ^ 64 + value * range + range ≤ limit held * 2 ^ (w + n)

one_more : (value range p : ℕ) → value < p → value * range + range ≤ range * p
one_more value range p h = let m : (value + 1) * range ≤ p * range = mul-le (value + 1) range p range (omega arith) (omega arith) in omega arith

pub few : (held : Option ℕ) (w low range value n : ℕ) → w ≤ 41 → range ≤ 510 → n ≤ 20 → value < 2 ^ n → low + range ≤ limit held * 2 ^ w → Few held w low range value n
few held w low range value n wide most f below room =
    let small = low_small held w low range wide room in
    let p = power_small n 20 f in
    let m : low * 2 ^ n ≤ 2 ^ 42 * 2 ^ 20 = mul-le low (2 ^ n) (2 ^ 42) (2 ^ 20) (omega arith) p in
    let k : value * range ≤ 1048576 * 510 = mul-le value range 1048576 510 (omega arith) most in
    let a : low * 2 ^ n % 2 ^ 64 ≡ low * 2 ^ n = mod-eq_of_lt (omega arith) in
    let b = scaled_room (limit held) w n low range room in
    let o = one_more value range (2 ^ n) below in
    record { number = a; fits = omega arith; room = omega arith }

pub followed : (result : Result (Unit {0}) NoMemory) (s new : State) (value n : ℕ) → Few s.pending.held s.width s.low s.range value n → 0 < n → value < 2 ^ n → 0 < s.range → 9 ≤ s.width →
    OnOk result (Advances (record s { low = s.low * 2 ^ n % 2 ^ 64 + value * s.range; range = s.range; width = s.width + n }) new) → OnOk result (Follows (bypass_bins (fl n value)) s new)
followed (Err e) s new value n f some below open_range from a = tt
followed (Ok x) s new value n f some below open_range from a =
    let more : 0 < new.range = (let e = a.range in omega arith) in
    record {
      shows = λ c h. (let e : s.range ≡ c.range = h.range in
          let v : value % 2 ^ n ≡ value = mod-eq_of_lt below in
          let m = moved s c n (value * s.range) s.range (s.low * 2 ^ n % 2 ^ 64 + value * s.range) (s.width + n) (c.low * 2 ^ n + value * s.range) (c.count + n) (ap (λ l. l + value * s.range) f.number) refl refl refl h in
          rw (bypass_code n value c, v, ← e) (a.shows _ m));
      some = more;
      phase = plain_of new more (a.fresh ∙ not_fresh s.range (s.width + n) (is_none s.pending.held) (omega arith));
    }
