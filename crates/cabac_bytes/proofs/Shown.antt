-- What a state shows, and shows after a step.
use Rattle.std.proofs.Common.{◌≡◌, refl, sym, ◌∙◌, ap, subst, ℕ, ◌+◌, ◌*◌, ◌-◌, ◌/◌, ◌%◌, ◌^◌, ◌<◌, ◌≤◌, Bool, false, List, ◌++◌, length, append_assoc, length-append, mod-lt, bit_and, ne_eqb, arith}
use Rattle.std.proofs.lemmas.Nat.{pow_pos, pow-add, and_mask, one_shl, div-add-mod'}
use Rattle.std.proofs.Math.Nat.{div-lt_iff_lt-mul, pow-le-pow_right}
use Rattle.h265_model.specs.declared.memory.NoMemory.{NoMemory}
use Rattle.std.specs.Prelude.{Ok, Err, Result, OnOk, Some, None, Option, ◌==◌, ◌&&◌}
use Rattle.h265_model.specs.Plain.{AreBytes}
use Rattle.h265_model.specs.Code.{Coding}
use Rattle.h265_model.proofs.ListParts.{all_append, all_front}
use Rattle.cabac_bytes.specs.Pending.{Pending, number, kept, limit, Passes}
use Rattle.cabac_bytes.specs.State.{State, Shows, Advances, is_none, IsState}
use Rattle.cabac_bytes.proofs.Numbers.{number-append, room, last, more}
use Rattle.std.proofs.Math.Bool.{and-false}

-- ---- the first four bytes of a number

pub record Split (low range width limit : ℕ) (lead rest : ℕ) : Type 0 where
  pub whole : lead * 2 ^ (width - 32) + rest ≡ low
  pub fits : lead < 4294967296 * limit
  pub small : rest < 2 ^ (width - 32)
  pub narrow : lead + 1 ≡ 4294967296 * limit → rest + range ≤ 2 ^ (width - 32)

four_bytes : (w : ℕ) → 32 ≤ w → 2 ^ w ≡ 2 ^ (w - 32) * 4294967296
four_bytes w h = let e : w ≡ (w - 32) + 32 = omega arith in ap (λ n. 2 ^ n) e ∙ pow-add 2 (w - 32) 32

pub quotient_below : (low p k : ℕ) → 0 < p → low < k * p → low / p < k
quotient_below low p k h l = (div-lt_iff_lt-mul h).1 l

regroup : (limit p : ℕ) → limit * (p * 4294967296) ≡ (4294967296 * limit) * p
regroup limit p = omega arith

narrow_by : (lead rest range p k low : ℕ) → lead * p + rest ≡ low → lead + 1 ≡ k → low + range ≤ k * p → rest + range ≤ p
narrow_by lead rest range p k low d t room = let e : k * p ≡ lead * p + p = ap (λ n. n * p) (sym t) ∙ (let f : (lead + 1) * p ≡ lead * p + p = omega arith in f) in omega arith

pub split : (low range width limit : ℕ) → 32 ≤ width → 0 < range → low + range ≤ limit * 2 ^ width →
    Split low range width limit (low / 2 ^ (width - 32)) (low % 2 ^ (width - 32))
split low range width limit h r room =
    let p : 0 < 2 ^ (width - 32) = pow_pos (width - 32) in
    let e : limit * 2 ^ width ≡ (4294967296 * limit) * 2 ^ (width - 32) = ap (λ n. limit * n) (four_bytes width h) ∙ regroup limit (2 ^ (width - 32)) in
    let d : low / 2 ^ (width - 32) * 2 ^ (width - 32) + low % 2 ^ (width - 32) ≡ low = div-add-mod' low (2 ^ (width - 32)) in
    record {
      whole = d;
      fits = quotient_below low (2 ^ (width - 32)) (4294967296 * limit) p (omega arith);
      small = mod-lt low p;
      narrow = λ t. narrow_by (low / 2 ^ (width - 32)) (low % 2 ^ (width - 32)) range (2 ^ (width - 32)) (4294967296 * limit) low d t (omega arith);
    }

-- ---- passing bytes on

pub shift_in : (n lead rest p k : ℕ) → (n * k + lead) * p + rest ≡ n * (p * k) + (lead * p + rest)
shift_in n lead rest p k = omega arith

pub two : (a p q now was lead k : ℕ) → p ≡ q * k → now ≡ was * k + lead → a * p + now ≡ (a * q + was) * k + lead
two a p q now was lead k e d = rw (e, d) (omega arith)

pub passed : (s : State) (c : Coding) (new : Pending) (lead rest : ℕ) → 32 ≤ s.width → lead * 2 ^ (s.width - 32) + rest ≡ s.low →
    Passes 4294967296 4 lead s.pending new → Shows s c → Shows (record s { pending = new; low = rest; width = s.width - 32 }) c
passed s c new lead rest w whole p h =
    let was : List ℕ = kept s.pending.held s.pending.run in
    let now : List ℕ = p.added ++ kept new.held new.run in
    let same : (h.settled ++ p.added) ++ kept new.held new.run ≡ h.settled ++ now = append_assoc h.settled p.added (kept new.held new.run) in
    let power : 256 ^ length now ≡ 256 ^ length was * 4294967296 = ap (λ n. 256 ^ n) p.long ∙ pow-add 256 (length was) 4 in
    let value : number (h.settled ++ now) ≡ number (h.settled ++ was) * 4294967296 + lead =
    number-append h.settled now ∙ two (number h.settled) (256 ^ length now) (256 ^ length was) (number now) (number was) lead 4294967296 power p.value ∙ ap (λ n. n * 4294967296 + lead) (sym (number-append h.settled was)) in
    let long : length (h.settled ++ now) ≡ length (h.settled ++ was) + 4 = omega (arith, length-append h.settled now, length-append h.settled was, p.long) in
    record {
      settled = h.settled ++ p.added;
      out = p.out ∙ ap (λ l. l ++ p.added) h.out ∙ append_assoc c.done h.settled p.added;
      bytes = subst AreBytes (sym same) (all_append _ h.settled now (all_front _ h.settled was h.bytes) p.bytes);
      low = rw same (rw value (shift_in (number (h.settled ++ was)) lead rest (2 ^ (s.width - 32)) 4294967296 ∙ (rw whole (rw (← four_bytes s.width w) h.low))));
      count = rw same (let k = h.count in omega arith);
      range = h.range;
      contexts = h.contexts;
    }

pub data Limits (held : Option ℕ) : Type 0 where
  once : limit held ≡ 1 → Limits held
  twice : limit held ≡ 2 → Limits held

pub limits : (held : Option ℕ) → Limits held
limits None = once refl
limits (Some byte) = elim (room byte) [ last is e ↦ once e | more not e ↦ twice e ]

all_of : (power first second l : ℕ) → second + 1 ≡ 256 → first + 1 ≡ power * l → first * 256 + second + 1 ≡ power * 256 * l
all_of power first second l e f = let g : power * 256 * l ≡ 256 * (power * l) = omega arith in rw (g, ← f) (omega arith)

joined_narrow : {held : Option ℕ} (power first second l : ℕ) → Limits held → second < 256 → (limit held ≡ 1 → first + 1 ≡ power * l) → second + 1 ≡ 256 * limit held → first * 256 + second + 1 ≡ power * 256 * l
joined_narrow power first second l (once e) small f h = all_of power first second l (rw e at h) (f e)
joined_narrow power first second l (twice e) small f h = absurd (omega arith)

-- two steps as one
pub joined : (power count first second : ℕ) (a b c : Pending) → second < 256 → Passes power count first a b → Passes 256 1 second b c → Passes (power * 256) (count + 1) (first * 256 + second) a c
joined power count first second a b c small f g =
    let was : List ℕ = kept a.held a.run in
    let mid : List ℕ = kept b.held b.run in
    let now : List ℕ = g.added ++ kept c.held c.run in
    let same : (f.added ++ g.added) ++ kept c.held c.run ≡ f.added ++ now = append_assoc f.added g.added (kept c.held c.run) in
    let size : 256 ^ length now ≡ 256 ^ length mid * 256 = ap (λ n. 256 ^ n) g.long ∙ pow-add 256 (length mid) 1 in
    let value : number (f.added ++ now) ≡ number (f.added ++ mid) * 256 + second =
    number-append f.added now ∙ two (number f.added) (256 ^ length now) (256 ^ length mid) (number now) (number mid) second 256 size g.value ∙ ap (λ n. n * 256 + second) (sym (number-append f.added mid)) in
    let long : length (f.added ++ now) ≡ length (f.added ++ mid) + 1 = omega (arith, length-append f.added now, length-append f.added mid, g.long) in
    record {
      added = f.added ++ g.added;
      out = g.out ∙ ap (λ l. l ++ g.added) f.out ∙ append_assoc a.out f.added g.added;
      value = rw same (value ∙ rw f.value (let t : (number was * power + first) * 256 + second ≡ number was * (power * 256) + (first * 256 + second) = omega arith in t));
      long = rw same (let l = f.long in omega arith);
      bytes = subst AreBytes (sym same) (all_append _ f.added now (all_front _ f.added mid f.bytes) g.bytes);
      narrow = λ e. joined_narrow power first second (limit a.held) (limits b.held) small f.narrow (g.narrow e);
      some = g.some;
    }

-- the digits left, as the code takes them
pub low_digits : (low rest : ℕ) → rest < 64 → bit_and low (1 * 2 ^ rest % 2 ^ 64 - 1) ≡ low % 2 ^ rest
low_digits low rest h = ap (λ m. bit_and low (m - 1)) (one_shl rest 64 h) ∙ and_mask low rest

pub four_passed : (result : Result (Unit {0}) NoMemory) (lead : ℕ) (a b c d e : Pending) → Passes 256 1 (lead / 16777216) a b → Passes 256 1 (lead / 65536 % 256) b c → Passes 256 1 (lead / 256 % 256) c d →
    OnOk result (Passes 256 1 (lead % 256) d e) → OnOk result (Passes 4294967296 4 lead a e)
four_passed (Err x) lead a b c d e f g h i = tt
four_passed (Ok x) lead a b c d e f g h i =
    let first : Passes 65536 2 (lead / 16777216 * 256 + lead / 65536 % 256) a c = joined 256 1 _ _ a b c (omega arith) f g in
    let second : Passes 16777216 3 ((lead / 16777216 * 256 + lead / 65536 % 256) * 256 + lead / 256 % 256) a d = joined 65536 2 _ _ a c d (omega arith) first h in
    let third : Passes 4294967296 4 (((lead / 16777216 * 256 + lead / 65536 % 256) * 256 + lead / 256 % 256) * 256 + lead % 256) a e = joined 16777216 3 _ _ a d e (omega arith) second i in
    let all : ((lead / 16777216 * 256 + lead / 65536 % 256) * 256 + lead / 256 % 256) * 256 + lead % 256 ≡ lead = omega arith in
    rw all at third

room_by : (new : Option ℕ) (old lead rest range p : ℕ) → Limits new → 510 ≤ p → range ≤ 510 → rest < p → (limit new ≡ 1 → lead + 1 ≡ 4294967296 * old) → (lead + 1 ≡ 4294967296 * old → rest + range ≤ p) →
    rest + range ≤ limit new * p
room_by new old lead rest range p (once e) big few small narrow fits = let h = fits (narrow e) in rw e (omega arith)
room_by new old lead rest range p (twice e) big few small narrow fits = rw e (omega arith)

pub not_fresh : (range width : ℕ) (none : Bool) → 10 ≤ width → (range == 510 && (width == 9 && none)) ≡ false
not_fresh range width none h = let t : width == 9 ≡ false = ne_eqb width 9 (λ e. omega arith) in rw t (and-false (range == 510))

pub record Wide (s : State) : Type 0 where
  pub from : 42 ≤ s.width
  pub to : s.width ≤ 61
  pub least : 256 ≤ s.range
  pub most : s.range ≤ 510
  pub room : s.low + s.range ≤ limit s.pending.held * 2 ^ s.width

pub kept_room : (s : State) (new : Pending) (rest : ℕ) → Wide s → Passes 4294967296 4 (s.low / 2 ^ (s.width - 32)) s.pending new → rest ≡ s.low % 2 ^ (s.width - 32) →
    IsState (record s { pending = new; low = rest; width = s.width - 32 })
kept_room s new rest w p e =
    let from = w.from in
    let to = w.to in
    let least = w.least in
    let most = w.most in
    let d = split s.low s.range s.width (limit s.pending.held) (omega arith) (omega arith) w.room in
    let positive : 0 < 2 = omega arith in
    let nine : 9 ≤ s.width - 32 = omega arith in
    let big : 2 ^ 9 ≤ 2 ^ (s.width - 32) = pow-le-pow_right positive nine in
    record {
      least = λ h. least;
      most = most;
      from = omega arith;
      to = omega arith;
      room = rw e (room_by new.held (limit s.pending.held) (s.low / 2 ^ (s.width - 32)) (s.low % 2 ^ (s.width - 32)) s.range (2 ^ (s.width - 32)) (limits new.held) (omega arith) most d.small p.narrow d.narrow);
    }

pub advanced : (s : State) (new : Pending) (rest : ℕ) → Wide s → Passes 4294967296 4 (s.low / 2 ^ (s.width - 32)) s.pending new → rest ≡ s.low % 2 ^ (s.width - 32) →
    Advances s (record s { pending = new; low = rest; width = s.width - 32 })
advanced s new rest w p e =
    let from = w.from in
    let to = w.to in
    let least = w.least in
    let d = split s.low s.range s.width (limit s.pending.held) (omega arith) (omega arith) w.room in
    record {
      shows = λ c h. rw e (passed s c new (s.low / 2 ^ (s.width - 32)) (s.low % 2 ^ (s.width - 32)) (omega arith) d.whole p h);
      range = refl;
      contexts = refl;
      fresh = not_fresh s.range (s.width - 32) (is_none new.held) (omega arith) ∙ sym (not_fresh s.range s.width (is_none s.pending.held) (omega arith));
    }
