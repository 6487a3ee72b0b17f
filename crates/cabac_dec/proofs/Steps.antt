-- What the steps of a decoder leave.
use Rattle.std.proofs.Common.{◌≡◌, refl, sym, ◌∙◌, ap, subst, ℕ, ◌+◌, ◌-◌, ◌*◌, ◌/◌, ◌%◌, ◌^◌, ◌<◌, ◌≤◌, Bool, true, false, List, length, take, drop, Some, None, Option, leb-true, leb-false, le-leb, ltb-true, ltb-false, mod-eq_of_lt, mod-lt, arith}
use Rattle.std.proofs.lemmas.List.{length-take-le}
use Rattle.std.proofs.lemmas.Bool.{cond-true}
use Rattle.std.proofs.lemmas.Nat.{mul-le, div-add-mod'}
use Rattle.cabac_dec.proofs.Windows.{wider}
use Rattle.std.specs.Prelude.{nat_le, nat_lt}
use Rattle.std.specs.Int.Count.{count_leading_zeros}
use Rattle.h265_model.specs.Bits.{digits_up_to}
use Rattle.h265_model.specs.Engine.{Engine, renormalised, doublings, shift_in}
use Rattle.h265_model.proofs.ByteLaws.{value_after-split}
use Rattle.h265_model.proofs.Doublings.{doubled}
use Rattle.cabac_dec.specs.State.{Reading, left, last_of, last_read, engine, offset_after, IsDecoder}
use Rattle.h265_model.specs.Binarise.{fl_read}
use Rattle.cabac_dec.proofs.Engines.{eng, stepped, renewed, not_renewed, engine_after, fl_there, fl_short}

pub enough : (b : Bool) (n m : ℕ) → b ≡ true → b ≡ nat_le n m → n ≤ m
enough b n m is there = leb-true n m (sym there ∙ is)

pub missing : (b : Bool) (n m : ℕ) → b ≡ false → b ≡ nat_le n m → m < n
missing b n m is there = leb-false n m (sym there ∙ is)

-- the same place with other bits at hand
abbrev pub IsSame : Reading → Reading → Type 0
IsSame r now = now ≡ record { bytes = r.bytes; place = r.place; offset = r.offset; ahead = now.ahead }

abbrev pub IsMoved : ℕ → ℕ → Reading → Reading → Type 0
IsMoved n less now after = after ≡ record { bytes = now.bytes; place = now.place + n; offset = offset_after n now - less; ahead = now.ahead - n }

pub moved_on : (n less : ℕ) (r now after : Reading) → IsSame r now → IsMoved n less now after → after ≡ stepped n less (now.ahead - n) r
moved_on n less r now after same moved =
    moved ∙ ap (λ (x : Reading). record { bytes = x.bytes; place = x.place + n; offset = offset_after n x - less; ahead = x.ahead - n }) same

-- the offset after bits is below the range as often doubled
pub after_below : (n range : ℕ) (r : Reading) → r.offset < range → n ≤ length (left r) → offset_after n r < range * 2 ^ n
after_below n range r below h =
    let s = value_after-split r.offset (take n (left r)) in
    let long : length (take n (left r)) ≡ n = length-take-le n (left r) h in
    let is : offset_after n r ≡ r.offset * 2 ^ n + s.low = s.is ∙ ap (λ (k : ℕ). r.offset * 2 ^ k + s.low) long in
    let low : s.low < 2 ^ n = subst (λ (k : ℕ). s.low < 2 ^ k) long s.below in
    let room : (r.offset + 1) * 2 ^ n ≤ range * 2 ^ n = mul-le (r.offset + 1) (2 ^ n) range (2 ^ n) (omega arith) (omega arith) in
    omega arith

pub now_below : (n range : ℕ) (r now : Reading) → r.offset < range → n ≤ length (left r) → IsSame r now → offset_after n now < range * 2 ^ n
now_below n range r now below h same = rw (ap (offset_after n) same) (after_below n range r below h)

-- ---- renormalising

abbrev pub zeros : ℕ → ℕ
zeros range = count_leading_zeros 32 range - 23

pub record Renewal (range : ℕ) (contexts : List ℕ) (r after : Reading) : Type 0 where
  pub invariant : IsDecoder (range * 2 ^ zeros range % 2 ^ 32) after
  pub is : renormalised (engine range contexts r) ≡ Some (engine (range * 2 ^ zeros range % 2 ^ 32) contexts after)
  pub inside : after.offset < range * 2 ^ zeros range % 2 ^ 32

pub renewal_room : (range : ℕ) (r now : Reading) → 4 ≤ range → range ≤ 510 → r.offset < range → zeros range ≤ length (left r) → IsSame r now → offset_after (zeros range) now < 1024
renewal_room range r now least most below h same =
    let d = doubled range least (omega arith) in
    let few : range * 2 ^ zeros range ≤ 510 = subst (λ (k : ℕ). range * 2 ^ k ≤ 510) (sym d.is) d.most in
    let b = now_below (zeros range) range r now below h same in
    omega arith

pub renewal : (range : ℕ) (contexts : List ℕ) (r now after : Reading) → 4 ≤ range → range ≤ 510 → r.offset < range → 0 < r.place → zeros range ≤ length (left r)
    → IsSame r now → IsMoved (zeros range) 0 now after → Renewal range contexts r after
renewal range contexts r now after least most below begun h same moved =
    let d = doubled range least (omega arith) in
    let k = zeros range in
    let few : range * 2 ^ k ≤ 510 = subst (λ (k : ℕ). range * 2 ^ k ≤ 510) (sym d.is) d.most in
    let many : 256 ≤ range * 2 ^ k = subst (λ (k : ℕ). 256 ≤ range * 2 ^ k) (sym d.is) d.least in
    let fits : range * 2 ^ k % 2 ^ 32 ≡ range * 2 ^ k = mod-eq_of_lt (omega arith) in
    let on : after ≡ stepped k 0 (now.ahead - k) r = moved_on k 0 r now after same moved in
    let room = after_below k range r below h in
    record {
      invariant = rw (fits, on) record { most = few; least = λ _. many; below = omega arith; begun = omega arith };
      is = rw (fits, on) (renewed k range (now.ahead - k) contexts r d.is h);
      inside = rw (fits, on) (omega arith);
    }

-- nine digits are enough
pub wide_enough : (range : ℕ) (contexts : List ℕ) (r : Reading) → 256 ≤ range → renormalised (engine range contexts r) ≡ Some (engine range contexts r)
unfolding renormalised doublings digits_up_to
wide_enough range contexts r h =
    let none : doublings range ≡ 0 = ap (λ n. 9 - n) (cond-true (nat_le 256 range) 9 _ (le-leb 256 range h)) in
    let once : range * 2 ^ 0 ≡ range = omega arith in
    ap (λ n. shift_in n (engine (range * 2 ^ n) contexts r)) none ∙ ap (λ n. Some (engine n contexts r)) once

pub no_renewal : (range : ℕ) (contexts : List ℕ) (r : Reading) → 4 ≤ range → range ≤ 510 → length (left r) < zeros range → renormalised (engine range contexts r) ≡ None
no_renewal range contexts r least most h = not_renewed (zeros range) range contexts r (doubled range least (omega arith)).is h

-- ---- tests, and the start

clash : true ≡ false → ⊥
clash h = cc

pub not_below : (b : Bool) (x limit : ℕ) → b ≡ false → (x < limit → b ≡ true) → limit ≤ x
not_below b x limit is tells = go (nat_lt x limit) refl
  where
    go : (t : Bool) → nat_lt x limit ≡ t → limit ≤ x
    go false e = ltb-false _ _ e
    go true e = let f : true ≡ false = sym (tells (ltb-true _ _ e)) ∙ is in absurd (clash f)

pub first_below : (r now : Reading) → r.offset ≡ 0 → 9 ≤ length (left r) → IsSame r now → offset_after 9 now < 1024
first_below r now none h same = let b = now_below 9 1 r now (omega arith) h same in omega arith

pub first_offset : (r now after : Reading) → IsSame r now → IsMoved 9 0 now after → after.offset ≡ offset_after 9 r
first_offset r now after same moved = ap (λ (x : Reading). x.offset) (moved_on 9 0 r now after same moved) ∙ omega arith

-- ---- bypass bins at once

pub bypassed_short : (n range : ℕ) (contexts : List ℕ) (r : Reading) → r.offset < range → length (left r) < n → fl_read n (engine range contexts r) ≡ None
bypassed_short n range contexts r below h = fl_short n 0 range r.offset contexts (last_read r) (left r) h below

at_zero : (p x : ℕ) → 0 * p + x ≡ x
at_zero p x = omega arith

pub bypassed_there : (n range ahead : ℕ) (contexts : List ℕ) (r : Reading) → r.offset < range → n ≤ length (left r)
    → fl_read n (engine range contexts r) ≡ Some (offset_after n r / range, engine range contexts (stepped n (offset_after n r / range * range) ahead r))
bypassed_there n range ahead contexts r below h =
    let head = offset_after n r in
    fl_there n 0 range r.offset contexts (last_read r) (left r) h below
    ∙ ap (λ k. Some (k, eng range (head - head / range * range) contexts (last_of (last_read r) (take n (left r))) (drop n (left r)))) (at_zero (2 ^ n) (head / range))
    ∙ ap (λ (e : Engine). Some (head / range, e)) (engine_after n (head / range * range) range ahead contexts r)

pub bypassed : (n range head : ℕ) (contexts : List ℕ) (r now after : Reading) → r.offset < range → n ≤ length (left r)
    → IsSame r now → head ≡ offset_after n now → IsMoved n (head / range * range) now after
    → fl_read n (engine range contexts r) ≡ Some (head / range, engine range contexts after)
bypassed n range head contexts r now after below h same is moved =
    let there : head ≡ offset_after n r = is ∙ ap (offset_after n) same in
    bypassed_there n range (now.ahead - n) contexts r below h
    ∙ ap (λ k. Some (k / range, engine range contexts (stepped n (k / range * range) (now.ahead - n) r))) (sym there)
    ∙ ap (λ (x : Reading). Some (head / range, engine range contexts x)) (sym (moved_on n (head / range * range) r now after same moved))

pub peeked : (n range head : ℕ) (contexts : List ℕ) (r now : Reading) → r.offset < range → n ≤ length (left r)
    → IsSame r now → head ≡ offset_after n now → (after : Engine) × (fl_read n (engine range contexts r) ≡ Some (head / range, after))
peeked n range head contexts r now below h same is =
    let there : head ≡ offset_after n r = is ∙ ap (offset_after n) same in (
      engine range contexts (stepped n (head / range * range) 0 r),
      bypassed_there n range 0 contexts r below h ∙ ap (λ k. Some (k / range, engine range contexts (stepped n (k / range * range) 0 r))) (sym there),
    )

-- ---- bypass bins that are known

clash_none : {A : Type 0} (o : Option A) (x : A) → o ≡ None → o ≡ Some x → ⊥
clash_none o x h k = let f : None ≡ Some x = sym h ∙ k in cc

same_some : {A : Type 0} (x y : A) → Some x ≡ Some y → x ≡ y
same_some x y h = cc

pub known_there : (n range value : ℕ) (contexts : List ℕ) (r : Reading) (after : Engine) → r.offset < range
    → fl_read n (engine range contexts r) ≡ Some (value, after) → n ≤ length (left r)
known_there n range value contexts r after below known = go (nat_le n (length (left r))) refl
  where
    go : (t : Bool) → nat_le n (length (left r)) ≡ t → n ≤ length (left r)
    go true e = leb-true _ _ e
    go false e = absurd (clash_none _ (value, after) (bypassed_short n range contexts r below (leb-false _ _ e)) known)

pub known_value : (n range value : ℕ) (contexts : List ℕ) (r : Reading) (after : Engine) → r.offset < range
    → fl_read n (engine range contexts r) ≡ Some (value, after) → value ≡ offset_after n r / range
known_value n range value contexts r after below known =
    let h = known_there n range value contexts r after below known in
    ap (λ (p : ℕ × Engine). p.0) (same_some _ _ (sym known ∙ bypassed_there n range 0 contexts r below h))

pub record Skipped (n range value : ℕ) (contexts : List ℕ) (r now : Reading) : Type 0 where
  pub there : n ≤ length (left r)
  pub head : value ≡ offset_after n now / range
  pub fits : value * range < 2 ^ 32
  pub least : value * range ≤ offset_after n now
  pub most : offset_after n now < value * range + range

pub skipped : (n range value : ℕ) (contexts : List ℕ) (r now : Reading) (after : Engine) → r.offset < range → range ≤ 510 → n ≤ 20 → IsSame r now
    → fl_read n (engine range contexts r) ≡ Some (value, after) → Skipped n range value contexts r now
skipped n range value contexts r now after below most few same known =
    let h = known_there n range value contexts r after below known in
    let head : value ≡ offset_after n now / range = known_value n range value contexts r after below known ∙ ap (λ k. k / range) (sym (ap (offset_after n) same)) in
    let whole : value * range + offset_after n now % range ≡ offset_after n now = ap (λ k. k * range + offset_after n now % range) head ∙ div-add-mod' (offset_after n now) range in
    let over : offset_after n now % range < range = mod-lt (offset_after n now) (omega arith) in
    let room = now_below n range r now below h same in
    let power : 2 ^ n ≤ 2 ^ 20 = wider n 20 few in
    let all : range * 2 ^ n ≤ 510 * 2 ^ 20 = mul-le range (2 ^ n) 510 (2 ^ 20) most power in
    record { there = h; head = head; fits = omega arith; least = omega arith; most = omega arith }

pub skipped_to : (n range value : ℕ) (contexts : List ℕ) (r now after : Reading) → Skipped n range value contexts r now → r.offset < range → IsSame r now
    → IsMoved n (value * range) now after → fl_read n (engine range contexts r) ≡ Some (value, engine range contexts after)
skipped_to n range value contexts r now after s below same moved =
    let e : value ≡ offset_after n now / range = s.head in
    bypassed n range (offset_after n now) contexts r now after below s.there same refl (rw (sym e) moved)
    ∙ ap (λ k. Some (k, engine range contexts after)) (sym e)

pub after_skip : (n range value : ℕ) (contexts : List ℕ) (r now after : Reading) → Skipped n range value contexts r now → IsMoved n (value * range) now after → after.offset < range
after_skip n range value contexts r now after s moved =
    let most = s.most in
    let least = s.least in
    rw moved (omega arith)

pub skip_keeps : (n range value : ℕ) (contexts : List ℕ) (r now after : Reading) → Skipped n range value contexts r now → IsDecoder range r → r.offset < range
    → IsSame r now → IsMoved n (value * range) now after → IsDecoder range after
skip_keeps n range value contexts r now after s d below same moved =
    let inside = after_skip n range value contexts r now after s moved in
    let most = d.most in
    let begun = d.begun in
    let place : after.place ≡ r.place + n = ap (λ (x : Reading). x.place) moved ∙ ap (λ (x : Reading). x.place + n) same in
    record { most = d.most; least = λ _. d.least below; below = omega arith; begun = omega arith }
