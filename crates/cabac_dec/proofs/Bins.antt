-- One bin, samples and ends.
use Rattle.std.proofs.Common.{◌≡◌, refl, sym, ◌∙◌, ap, subst, ℕ, zero, suc, ◌+◌, ◌-◌, ◌*◌, ◌/◌, ◌%◌, ◌^◌, ◌<◌, ◌≤◌, Bool, true, false, not, List, [], ◌∷◌, length, take, drop, get_or, Some, None, Option, bit_and, nat_eq, le-leb, arith}
use Rattle.std.proofs.lemmas.Bool.{cond-true, cond-false, lt-leb}
use Rattle.std.proofs.lemmas.List.{length-drop, drop-drop, drop_all}
use Rattle.std.proofs.lemmas.Nat.{and_mask}
use Rattle.std.specs.Prelude.{nat_le, ◌==◌}
use Rattle.h265_model.specs.Bits.{u, bits, read_u, read_alignment, is_empty, ◌>>=◌ as and_then}
use Rattle.h265_model.specs.Plain.{AreBytes}
use Rattle.h265_model.specs.Contexts.{lps_range, mps, step}
use Rattle.h265_model.specs.Engine.{Engine, read_bytes, renormalised, with_bin, context_read, bypass_read, terminate_read, start, aligned, samples, is_done, at_end}
use Rattle.h265_model.proofs.BitLaws.{read_u-u}
use Rattle.cabac_dec.specs.State.{Reading, left, last_read, engine, offset_after, IsDecoder, Aligns, sample_bytes}
use Rattle.cabac_dec.proofs.Parts.{drop-bits, bytes_left}
use Rattle.cabac_dec.proofs.Steps.{IsSame, IsMoved, moved_on, now_below}
use Rattle.cabac_dec.proofs.Engines.{bypass_none, bypass_zero, bypass_one}

-- ---- under a context

likely_share : (n range : ℕ) (contexts : List ℕ) (r : Reading) → r.offset < range - lps_range (get_or contexts n 0) (range / 64 % 4)
    → context_read n (engine range contexts r) ≡ with_bin (mps (get_or contexts n 0)) (renormalised (engine (range - lps_range (get_or contexts n 0) (range / 64 % 4)) (step contexts n (mps (get_or contexts n 0))) r))
unfolding context_read
likely_share n range contexts r h = cond-false (nat_le (range - lps_range (get_or contexts n 0) (range / 64 % 4)) r.offset) _ _ (lt-leb _ _ h)

unlikely_share : (n range : ℕ) (contexts : List ℕ) (r : Reading) → range - lps_range (get_or contexts n 0) (range / 64 % 4) ≤ r.offset
    → context_read n (engine range contexts r) ≡ with_bin (not (mps (get_or contexts n 0)))
    (renormalised (record (engine (lps_range (get_or contexts n 0) (range / 64 % 4)) (step contexts n (not (mps (get_or contexts n 0)))) r) { offset = r.offset - (range - lps_range (get_or contexts n 0) (range / 64 % 4)) }))
unfolding context_read
unlikely_share n range contexts r h = cond-true (nat_le (range - lps_range (get_or contexts n 0) (range / 64 % 4)) r.offset) _ _ (le-leb _ _ h)

-- the more probable value and the share, as the code computes them
record Found (n state small range : ℕ) (contexts : List ℕ) : Type 0 where
  value : mps (get_or contexts n 0) ≡ nat_eq (bit_and state 1) 1
  share : lps_range (get_or contexts n 0) (range / 64 % 4) ≡ small

found : (n state small range : ℕ) (contexts : List ℕ) → state ≡ get_or contexts n 0 → small ≡ lps_range state (bit_and (range / 64) 3) → Found n state small range contexts
found n state small range contexts is share =
    let bit : bit_and state 1 ≡ state % 2 = and_mask state 1 in
    let quarter : bit_and (range / 64) 3 ≡ range / 64 % 4 = and_mask (range / 64) 2 in
    record {
      value = ap (λ b. b % 2 == 1) (sym is) ∙ ap (λ b. b == 1) (sym bit);
      share = ap (λ b. lps_range b (range / 64 % 4)) (sym is) ∙ ap (lps_range state) (sym quarter) ∙ sym share;
    }

pub likely : (n state small range : ℕ) (contexts after : List ℕ) (r : Reading) → state ≡ get_or contexts n 0 → small ≡ lps_range state (bit_and (range / 64) 3)
    → r.offset < range - small → after ≡ step contexts n (nat_eq (bit_and state 1) 1)
    → context_read n (engine range contexts r) ≡ with_bin (nat_eq (bit_and state 1) 1) (renormalised (engine (range - small) after r))
likely n state small range contexts after r is share below stepped_is =
    let f = found n state small range contexts is share in
    likely_share n range contexts r (subst (λ s. r.offset < range - s) (sym f.share) below)
    ∙ ap (λ v. with_bin v (renormalised (engine (range - lps_range (get_or contexts n 0) (range / 64 % 4)) (step contexts n v) r))) f.value
    ∙ ap (λ s. with_bin (nat_eq (bit_and state 1) 1) (renormalised (engine (range - s) (step contexts n (nat_eq (bit_and state 1) 1)) r))) f.share
    ∙ ap (λ l. with_bin (nat_eq (bit_and state 1) 1) (renormalised (engine (range - small) l r))) (sym stepped_is)

-- a reading whose offset is only lessened
pub lessened_only : (less : ℕ) (r after : Reading) → IsMoved 0 less r after → after ≡ record { bytes = r.bytes; place = r.place; offset = r.offset - less; ahead = r.ahead }
unfolding Rattle.h265_model.specs.Bits.value_after
lessened_only less r after moved =
    let place : r.place + 0 ≡ r.place = omega arith in
    let ahead : r.ahead - 0 ≡ r.ahead = omega arith in
    moved ∙ rw (place, ahead) refl

pub unlikely : (n state small range : ℕ) (contexts steps : List ℕ) (r after : Reading) → state ≡ get_or contexts n 0 → small ≡ lps_range state (bit_and (range / 64) 3)
    → range - small ≤ r.offset → steps ≡ step contexts n (not (nat_eq (bit_and state 1) 1)) → IsMoved 0 (range - small) r after
    → context_read n (engine range contexts r) ≡ with_bin (not (nat_eq (bit_and state 1) 1)) (renormalised (engine small steps after))
unlikely n state small range contexts steps r after is share enough stepped_is moved =
    let f = found n state small range contexts is share in
    unlikely_share n range contexts r (subst (λ s. range - s ≤ r.offset) (sym f.share) enough)
    ∙ ap (λ v. with_bin (not v) (renormalised (record (engine (lps_range (get_or contexts n 0) (range / 64 % 4)) (step contexts n (not v)) r) { offset = r.offset - (range - lps_range (get_or contexts n 0) (range / 64 % 4)) }))) f.value
    ∙ ap (λ s. with_bin (not (nat_eq (bit_and state 1) 1)) (renormalised (record (engine s (step contexts n (not (nat_eq (bit_and state 1) 1))) r) { offset = r.offset - (range - s) }))) f.share
    ∙ ap (λ l. with_bin (not (nat_eq (bit_and state 1) 1)) (renormalised (record (engine small l r) { offset = r.offset - (range - small) }))) (sym stepped_is)
    ∙ ap (λ (x : Reading). with_bin (not (nat_eq (bit_and state 1) 1)) (renormalised (engine small steps x))) (sym (lessened_only (range - small) r after moved))

pub with_none : (v : Bool) (o : Option Engine) → o ≡ None → with_bin v o ≡ None
with_none v o h = ap (with_bin v) h

pub with_some : (v : Bool) (o : Option Engine) (e : Engine) → o ≡ Some e → with_bin v o ≡ Some (v, e)
with_some v o e h = ap (with_bin v) h

-- ---- a terminating bin

pub goes_on : (range : ℕ) (contexts : List ℕ) (r : Reading) → r.offset < range - 2 → terminate_read (engine range contexts r) ≡ with_bin false (renormalised (engine (range - 2) contexts r))
unfolding terminate_read
goes_on range contexts r h = cond-false (nat_le (range - 2) r.offset) _ _ (lt-leb _ _ h)

pub ends : (range : ℕ) (contexts : List ℕ) (r : Reading) → range - 2 ≤ r.offset → terminate_read (engine range contexts r) ≡ Some (true, engine (range - 2) contexts r)
unfolding terminate_read
ends range contexts r h = cond-true (nat_le (range - 2) r.offset) _ _ (le-leb _ _ h)

-- ---- samples

pub bytes_read : (n : ℕ) (xs : List ℕ) → AreBytes xs → n ≤ length xs → read_bytes n (bits xs) ≡ Some (take n xs, bits (drop n xs))
bytes_read zero xs h few = refl
bytes_read (suc n) [] h few = absurd (omega arith)
bytes_read (suc n) (x ∷ xs) h few =
    let byte : x % 2 ^ 8 ≡ x = let b : x < 256 = h.0 in omega arith in
    ap (λ o. and_then o (λ (first : ℕ × List Bool). and_then (read_bytes n first.1) (λ (others : List ℕ × List Bool). Some (first.0 ∷ others.0, others.1))))
    (read_u-u 8 x (bits xs) ∙ ap (λ y. Some (y, bits xs)) byte)
    ∙ ap (λ o. and_then o (λ (others : List ℕ × List Bool). Some (x ∷ others.0, others.1))) (bytes_read n xs h.1 (omega arith))

pub bytes_missing : (n : ℕ) (xs : List ℕ) → AreBytes xs → length xs < n → read_bytes n (bits xs) ≡ None
unfolding read_u
bytes_missing zero xs h few = absurd (omega arith)
bytes_missing (suc n) [] h few = refl
bytes_missing (suc n) (x ∷ xs) h few =
    ap (λ o. and_then o (λ (first : ℕ × List Bool). and_then (read_bytes n first.1) (λ (others : List ℕ × List Bool). Some (first.0 ∷ others.0, others.1)))) (read_u-u 8 x (bits xs))
    ∙ ap (λ o. and_then o (λ (others : List ℕ × List Bool). Some (x % 2 ^ 8 ∷ others.0, others.1))) (bytes_missing n xs h.1 (omega arith))

-- ---- the end

not_empty : (xs : List ℕ) → 0 < length xs → is_empty (bits xs) ≡ false
unfolding u
not_empty [] h = absurd (omega arith)
not_empty (x ∷ xs) h = refl

pub not_aligned : (range : ℕ) (contexts : List ℕ) (r : Reading) → Aligns None r → is_done (engine range contexts r) ≡ false
unfolding is_done aligned
not_aligned range contexts r h = ap at_end h

pub bytes_behind : (range at : ℕ) (contexts : List ℕ) (r : Reading) → Aligns (Some at) r → at < length r.bytes → is_done (engine range contexts r) ≡ false
unfolding is_done aligned
bytes_behind range at contexts r h some = ap at_end h.1 ∙ not_empty (drop at r.bytes) (omega (arith, length-drop at r.bytes))

pub nothing_behind : (range at : ℕ) (contexts : List ℕ) (r : Reading) → Aligns (Some at) r → length r.bytes ≤ at → is_done (engine range contexts r) ≡ true
unfolding is_done aligned
nothing_behind range at contexts r h none = ap at_end h.1 ∙ ap (λ l. is_empty (bits l)) (drop_all at r.bytes none)

-- ---- one bypass bin

pub record Halving (range : ℕ) (contexts : List ℕ) (r after : Reading) (value : Bool) : Type 0 where
  pub invariant : IsDecoder range after
  pub is : bypass_read (engine range contexts r) ≡ Some (value, engine range contexts after)
  pub inside : after.offset < range

pub no_bit : (range : ℕ) (contexts : List ℕ) (r : Reading) → length (left r) < 1 → bypass_read (engine range contexts r) ≡ None
no_bit range contexts r h = bypass_none range contexts r h

pub bit_below : (range : ℕ) (r now : Reading) → r.offset < range → 1 ≤ length (left r) → IsSame r now → offset_after 1 now < 2 * range
bit_below range r now below h same = let b = now_below 1 range r now below h same in omega arith

pub zero_bin : (range head : ℕ) (contexts : List ℕ) (r now after : Reading) → IsDecoder range r → r.offset < range → 1 ≤ length (left r)
    → IsSame r now → head ≡ offset_after 1 now → head < range → IsMoved 1 0 now after → Halving range contexts r after false
zero_bin range head contexts r now after d below h same is small moved =
    let there : head ≡ offset_after 1 r = is ∙ ap (offset_after 1) same in
    let on = moved_on 1 0 r now after same moved in
    let most = d.most in
    record {
      invariant = rw on record { most = d.most; least = λ _. d.least below; below = omega arith; begun = omega arith };
      is = rw on (bypass_zero range (now.ahead - 1) contexts r h (omega arith));
      inside = rw on (omega arith);
    }

pub one_bin : (range head : ℕ) (contexts : List ℕ) (r now after : Reading) → IsDecoder range r → r.offset < range → 1 ≤ length (left r)
    → IsSame r now → head ≡ offset_after 1 now → range ≤ head → IsMoved 1 range now after → Halving range contexts r after true
one_bin range head contexts r now after d below h same is large moved =
    let there : head ≡ offset_after 1 r = is ∙ ap (offset_after 1) same in
    let on = moved_on 1 range r now after same moved in
    let most = d.most in
    let twice = bit_below range r now below h same in
    record {
      invariant = rw on record { most = d.most; least = λ _. d.least below; below = omega arith; begun = omega arith };
      is = rw on (bypass_one range (now.ahead - 1) contexts r h (omega arith));
      inside = rw on (omega arith);
    }

-- ---- samples after the stop bit

pub unaligned : (n : ℕ) (r : Reading) → Aligns None r → sample_bytes n r ≡ None
unaligned n r h = ap (λ o. and_then o (λ bits. read_bytes n bits)) h

pub few_left : (n at : ℕ) (r : Reading) → Aligns (Some at) r → AreBytes r.bytes → length r.bytes - at < n → sample_bytes n r ≡ None
few_left n at r h are few =
    ap (λ o. and_then o (λ bits. read_bytes n bits)) h.1
    ∙ bytes_missing n (drop at r.bytes) (bytes_left r.bytes at are) (omega (arith, length-drop at r.bytes))

pub enough_left : (n at : ℕ) (r now : Reading) → Aligns (Some at) r → AreBytes r.bytes → n ≤ length r.bytes - at
    → now ≡ record { bytes = r.bytes; place = 8 * (at + n); offset = 0; ahead = 0 }
    → sample_bytes n r ≡ Some (take n (drop at r.bytes), left now)
enough_left n at r now h are few is =
    let within = h.0 in
    let rest : bits (drop n (drop at r.bytes)) ≡ left now =
    ap bits (drop-drop n at r.bytes) ∙ sym (drop-bits r.bytes (at + n) (omega arith)) ∙ ap left (sym is) in
    ap (λ o. and_then o (λ bits. read_bytes n bits)) h.1
    ∙ bytes_read n (drop at r.bytes) (bytes_left r.bytes at are) (omega (arith, length-drop at r.bytes))
    ∙ ap (λ b. Some (take n (drop at r.bytes), b)) rest

abbrev then_start : List ℕ → Option (List ℕ × List Bool) → Option (List ℕ × Engine)
then_start contexts o = and_then o (λ (found : List ℕ × List Bool). and_then (start contexts found.1) (λ (d : Engine). Some (found.0, d)))

regrouped : (n : ℕ) (contexts : List ℕ) (o : Option (List Bool))
    → and_then o (λ bits. and_then (read_bytes n bits) (λ found. and_then (start contexts found.1) (λ (d : Engine). Some (found.0, d)))) ≡ then_start contexts (and_then o (λ bits. read_bytes n bits))
regrouped n contexts None = refl
regrouped n contexts (Some bits) = refl

as_parts : (n range : ℕ) (contexts : List ℕ) (r : Reading) → samples n (engine range contexts r) ≡ then_start contexts (sample_bytes n r)
unfolding samples aligned
as_parts n range contexts r = regrouped n contexts (read_alignment (last_read r ∷ left r))

pub no_samples : (n range : ℕ) (contexts : List ℕ) (r : Reading) → sample_bytes n r ≡ None → samples n (engine range contexts r) ≡ None
no_samples n range contexts r h = as_parts n range contexts r ∙ ap (then_start contexts) h

pub no_start : (n range : ℕ) (contexts out : List ℕ) (r now : Reading) → sample_bytes n r ≡ Some (out, left now) → None ≡ start contexts (left now) → samples n (engine range contexts r) ≡ None
no_start n range contexts out r now h e =
    as_parts n range contexts r ∙ ap (then_start contexts) h ∙ ap (λ o. and_then o (λ (d : Engine). Some (out, d))) (sym e)

pub all_read : (n range : ℕ) (contexts out : List ℕ) (r now : Reading) (new : Engine) → sample_bytes n r ≡ Some (out, left now) → Some new ≡ start contexts (left now)
    → samples n (engine range contexts r) ≡ Some (out, new)
all_read n range contexts out r now new h e =
    as_parts n range contexts r ∙ ap (then_start contexts) h ∙ ap (λ o. and_then o (λ (d : Engine). Some (out, d))) (sym e)
